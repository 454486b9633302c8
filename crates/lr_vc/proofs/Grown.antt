-- A run with one frame more: what its zones, its pointers and its starts are.
use Rattle.std.proofs.Common.{◌≡◌, ℕ, ◌+◌, ◌-◌, ◌*◌, ◌/◌, ◌<◌, ◌≤◌, true, false, cond, [], ◌∷◌, ◌++◌, map, length}
use Rattle.std.proofs.Common.{get_or, flat_map, refl, ap, ap₂, ◌∙◌, arith, append-nil, length-append, ltb}
use Rattle.std.proofs.lemmas.List.{get_or_append_left, get_or_push, map-append, length-map, length_push}
use Rattle.std.proofs.lemmas.List.Concat.{flat_map-append}
use Rattle.std.proofs.lemmas.Bool.{cond_both}
use Rattle.std.specs.List.{AllByRecursion as Each, range_with_len}
use Rattle.lr_bits.specs.declared.sizes.TheConstants.{ZONE_BYTES}
use Rattle.lr_vc.specs.Frame.{Fields}
use Rattle.lr_vc.specs.Runs.{Run}
use Rattle.lr_vc.specs.Packets.{zones_of, pointer_of, place_of, starts_from, starts_in_zone, starts_of, zones_after}
use Rattle.lr_vc.proofs.Lists.{Each_weaker, Each-flat_map, Each-range, flat_map_same, range_more}
use Rattle.lr_vc.proofs.Starts.{starts_from-append, starts_from-behind, starts_from_within}

-- every zone has 884 bytes
abbrev pub AreZones : Run → Type 0
AreZones run = Each (λ f. length f.1.zone ≡ ZONE_BYTES) run

pub zones_of-more : (run : Run) (f : ℕ × Fields) → zones_of (run ++ f ∷ []) ≡ zones_of run ++ f.1.zone
unfolding zones_of
zones_of-more run f = flat_map-append (λ f. f.1.zone) run (f ∷ []) ∙ ap (λ z. zones_of run ++ z) (append-nil f.1.zone)

pub length-zones_of : (run : Run) → AreZones run → length (zones_of run) ≡ ZONE_BYTES * length run
unfolding zones_of
length-zones_of [] _ = refl
length-zones_of (f ∷ fs) h = omega (arith, length-append f.1.zone (zones_of fs), length-zones_of fs h.1, h.0)

module _ (run : Run) (f : ℕ × Fields) where
  pub length-more : length (run ++ f ∷ []) ≡ length run + 1
  length-more = length_push run f

  pub pointer_of-more : (t : ℕ) → t < length run → pointer_of (run ++ f ∷ []) t ≡ pointer_of run t
  unfolding pointer_of
  pointer_of-more t h =
      let inside : t < length (map (λ f. f.1.pointer) run) = omega (arith, length-map run (λ f. f.1.pointer)) in
      ap (λ ps. get_or ps t 0) (map-append (λ f. f.1.pointer) run (f ∷ []))
      ∙ get_or_append_left (map (λ f. f.1.pointer) run) (f.1.pointer ∷ []) 0 t inside

  pub pointer_of-last : pointer_of (run ++ f ∷ []) (length run) ≡ f.1.pointer
  unfolding pointer_of
  pointer_of-last =
      ap (λ ps. get_or ps (length run) 0) (map-append (λ f. f.1.pointer) run (f ∷ []))
      ∙ get_or_push (map (λ f. f.1.pointer) run) f.1.pointer 0 (length run) (length-map run (λ f. f.1.pointer))

  pub place_of-more : (t : ℕ) → t < length run → place_of (run ++ f ∷ []) t ≡ place_of run t
  unfolding place_of
  place_of-more t h =
      let inside : t < length (map (λ f. f.0) run) = omega (arith, length-map run (λ f. f.0)) in
      ap (λ ps. get_or ps t 0) (map-append (λ f. f.0) run (f ∷ []))
      ∙ get_or_append_left (map (λ f. f.0) run) (f.0 ∷ []) 0 t inside

  pub place_of-last : place_of (run ++ f ∷ []) (length run) ≡ f.0
  unfolding place_of
  place_of-last =
      ap (λ ps. get_or ps (length run) 0) (map-append (λ f. f.0) run (f ∷ []))
      ∙ get_or_push (map (λ f. f.0) run) f.0 0 (length run) (length-map run (λ f. f.0))

  pub zones_after-more : (s : ℕ) → s < ZONE_BYTES * length run →
      zones_after (run ++ f ∷ []) s ≡ zones_after run s ++ length run ∷ []
  unfolding zones_after
  zones_after-more s h =
      let first = s / ZONE_BYTES + 1 in
      let count : length (run ++ f ∷ []) - first ≡ (length run - first) + 1 = omega (arith, length-more) in
      let last : first + (length run - first) ≡ length run = omega arith in
      ap (λ n. range_with_len first n) count ∙ range_more first (length run - first)
      ∙ ap (λ n. range_with_len first (length run - first) ++ n ∷ []) last

  -- the starts in the zones that were there
  pub starts_in_zone-more : AreZones run → (t : ℕ) → t < length run →
      starts_in_zone (run ++ f ∷ []) t ≡ starts_in_zone run t
  unfolding starts_in_zone
  starts_in_zone-more zones t h =
      let edge : ZONE_BYTES * t + ZONE_BYTES ≤ length (zones_of run) = omega (arith, length-zones_of run zones) in
      rw (
        pointer_of-more t h,
        zones_of-more run f,
        starts_from-append (zones_of run) f.1.zone (ZONE_BYTES * t + ZONE_BYTES) ZONE_BYTES
            (ZONE_BYTES * t + pointer_of run t) edge,
      ) refl

  -- those in the new one
  pub starts_in_zone-last : AreZones run →
      starts_in_zone (run ++ f ∷ []) (length run) ≡ map (λ s. ZONE_BYTES * length run + s)
      (cond (ltb f.1.pointer ZONE_BYTES) (starts_from f.1.zone ZONE_BYTES ZONE_BYTES f.1.pointer) [])
  unfolding starts_in_zone
  starts_in_zone-last zones =
      rw (
        pointer_of-last,
        zones_of-more run f,
        starts_from-behind (zones_of run) f.1.zone
            (ZONE_BYTES * length run) ZONE_BYTES ZONE_BYTES f.1.pointer (length-zones_of run zones),
      )
      (elim (ltb f.1.pointer ZONE_BYTES) as (λ b. cond b (map (λ s. ZONE_BYTES * length run + s)
      (starts_from f.1.zone ZONE_BYTES ZONE_BYTES f.1.pointer)) [] ≡
      map (λ s. ZONE_BYTES * length run + s) (cond b (starts_from f.1.zone ZONE_BYTES ZONE_BYTES f.1.pointer) []))
      [ true ↦ refl | false ↦ refl ])

  pub starts_of-more : AreZones run →
      starts_of (run ++ f ∷ []) ≡ starts_of run ++ starts_in_zone (run ++ f ∷ []) (length run)
  unfolding starts_of
  starts_of-more zones =
      let grown = run ++ f ∷ [] in
      let range : range_with_len 0 (length grown) ≡ range_with_len 0 (length run) ++ length run ∷ [] =
      ap (λ n. range_with_len 0 n) length-more ∙ range_more 0 (length run)
      ∙ ap (λ n. range_with_len 0 (length run) ++ n ∷ []) (omega arith) in
      let old : flat_map (starts_in_zone grown) (range_with_len 0 (length run)) ≡
      flat_map (starts_in_zone run) (range_with_len 0 (length run)) =
      flat_map_same (starts_in_zone grown) (starts_in_zone run) (range_with_len 0 (length run))
      (Each-range (λ t. starts_in_zone grown t ≡ starts_in_zone run t) 0 (length run)
      (λ t _ high. starts_in_zone-more zones t (omega arith))) in
      ap (λ ts. flat_map (starts_in_zone grown) ts) range
      ∙ flat_map-append (starts_in_zone grown) (range_with_len 0 (length run)) (length run ∷ [])
      ∙ ap₂ (λ xs ys. xs ++ ys) old (append-nil (starts_in_zone grown (length run)))

-- each start lies in its zone, so in the run
pub starts_of_within : (run : Run) → Each (λ s. s < ZONE_BYTES * length run) (starts_of run)
unfolding starts_of starts_in_zone
starts_of_within run =
    let P : ℕ → Type 0 = λ s. s < ZONE_BYTES * length run in
    let zone : (t : ℕ) → 0 ≤ t → t < 0 + length run → Each P (starts_in_zone run t) =
    λ t _ high.
    let Q : ℕ → Type 0 = λ k. (ZONE_BYTES * t ≤ k) × (k < ZONE_BYTES * t + ZONE_BYTES) in
    let weaker : (k : ℕ) → Q k → P k = λ k q. omega arith in
    cond_both (ltb (pointer_of run t) ZONE_BYTES) _ _ (λ ks. Each P ks)
    (λ _. Each_weaker Q P weaker _ (starts_from_within (zones_of run) (ZONE_BYTES * t)
    (ZONE_BYTES * t + ZONE_BYTES) ZONE_BYTES
    (ZONE_BYTES * t + pointer_of run t) (omega arith))) (λ _. tt) in
    Each-flat_map P (starts_in_zone run) (range_with_len 0 (length run))
    (Each-range (λ t. Each P (starts_in_zone run t)) 0 (length run) zone)
