-- The packets that end in the last frame of a run, and those that are open after it.
use Rattle.std.proofs.Common.{◌≡◌, ℕ, ◌+◌, ◌*◌, ◌<◌, ◌≤◌, Bool, true, false, cond, not, ◌&&◌, List, [], ◌∷◌, ◌++◌, map}
use Rattle.std.proofs.Common.{length, drop, filter, flat_map, refl, sym, ap, ap₂, ◌∙◌, arith, append-nil, ltb, eqb}
use Rattle.std.proofs.Common.{eq-eqb, ne_eqb, drop-drop, drop_at}
use Rattle.std.proofs.Math.Bool.{and-true}
use Rattle.std.proofs.lemmas.List.{map-append, drop-append-le}
use Rattle.std.proofs.lemmas.List.Elements.{filter-append}
use Rattle.std.proofs.lemmas.Bool.{and_parts, and_right, cond_both}
use Rattle.std.specs.List.{AllByRecursion as Each}
use Rattle.lr_bits.specs.declared.sizes.TheConstants.{ZONE_BYTES}
use Rattle.lr_vc.specs.Frame.{Fields}
use Rattle.lr_vc.specs.Runs.{Run}
use Rattle.lr_vc.specs.Packets.{zones_of, place_of, is_whole, starts_from, starts_of, is_delivered, packet_at, ends_in}
use Rattle.lr_vc.specs.Packets.{packets_ending}
use Rattle.lr_vc.specs.Standing.{is_open_packet, open_packets}
use Rattle.lr_vc.specs.Steps.{ends_with, goes_on_after, completed_packet, continued_packet, starts_after}
use Rattle.lr_vc.specs.Steps.{packets_inside, starts_unfinished}
use Rattle.lr_vc.proofs.Grown.{AreZones, zones_of-more, length-zones_of, starts_in_zone-last, starts_of-more}
use Rattle.lr_vc.proofs.Grown.{starts_of_within}
use Rattle.lr_vc.proofs.Crossing.{is_open_packet-more, ends_in_earlier, ends_in_new, is_open_packet-last, ends_in-last}
use Rattle.lr_vc.proofs.Lists.{Each_weaker, Each-map, map_filter_same, filter_none}
use Rattle.lr_vc.proofs.Starts.{packet_at-append, packet_at-behind, packet_at-drop, starts_from_within}

-- what is made of the packets that pass, from those that are open, of which some pass
flat_map_open : {X : Type 0} (f : List ℕ → List X) (g : ℕ → X) (rest : ℕ → List ℕ) (p o : ℕ → Bool) (q : List ℕ → Bool)
    (xs : List ℕ) →
    Each (λ s. (p s ≡ (o s && q (rest s))) × (f (rest s) ≡ cond (q (rest s)) (g s ∷ []) [])) xs →
    map g (filter p xs) ≡ flat_map f (map rest (filter o xs))
flat_map_open f g rest p o q [] _ = refl
flat_map_open f g rest p o q (x ∷ xs) h =
    let tail = flat_map_open f g rest p o q xs h.1 in
    let left = λ (b : Bool). map g (cond b (x ∷ filter p xs) (filter p xs)) in
    let right = λ (b : Bool). flat_map f (map rest (cond b (x ∷ filter o xs) (filter o xs))) in
    let both : (a b : Bool) → f (rest x) ≡ cond b (g x ∷ []) [] → left (a && b) ≡ right a =
    λ a b. elim a as (λ a. f (rest x) ≡ cond b (g x ∷ []) [] → left (a && b) ≡ right a) [
      | true ↦ elim b as (λ b. f (rest x) ≡ cond b (g x ∷ []) [] → left b ≡ right true) [
        | true ↦ λ e. ap₂ (λ (ys zs : List _). ys ++ zs) (sym e) tail
        | false ↦ λ e.
            ap₂ (λ (ys zs : List _). ys ++ zs) (sym e) tail
      ]
      | false ↦ λ _. tail
    ] in
    ap left h.0.0 ∙ both (o x) (q (rest x)) h.0.1

map_filter_map : {X : Type 0} (g h : ℕ → X) (p q : ℕ → Bool) (n : ℕ) (xs : List ℕ) →
    Each (λ s. (p (n + s) ≡ q s) × (g (n + s) ≡ h s)) xs → map g (filter p (map (λ s. n + s) xs)) ≡ map h (filter q xs)
map_filter_map g h p q n [] _ = refl
map_filter_map g h p q n (x ∷ xs) e =
    let tail = map_filter_map g h p q n xs e.1 in
    let left =
    λ (b : Bool). map g (cond b ((n + x) ∷ filter p (map (λ s. n + s) xs)) (filter p (map (λ s. n + s) xs))) in
    ap left e.0.0 ∙ elim (q x) as (λ b. left b ≡ map h (cond b (x ∷ filter q xs) (filter q xs))) [
      | true ↦ ap₂
          (λ y ys. y ∷ ys) e.0.1 tail
      | false ↦ tail
    ]

-- a packet that ends in some frame is whole
ends_whole : (run : Run) (place s : ℕ) → ends_in run place s ≡ true → is_whole (zones_of run) s ≡ true
unfolding ends_in is_delivered
ends_whole run place s e =
    let d : is_delivered run s ≡ true = (and_parts (is_delivered run s) _ e).0 in
    (and_parts (is_whole (zones_of run) s) _ d).0

module _ (run : Run) (f : ℕ × Fields) (zones : AreZones run) (long : length f.1.zone ≡ ZONE_BYTES) where
  firsts : List ℕ
  firsts = cond (ltb f.1.pointer ZONE_BYTES) (starts_from f.1.zone ZONE_BYTES ZONE_BYTES f.1.pointer) []

  firsts_within : Each (λ q. q < ZONE_BYTES) firsts
  unfolding firsts
  firsts_within =
      let P : ℕ → Type 0 = λ q. q < ZONE_BYTES in
      cond_both (ltb f.1.pointer ZONE_BYTES) _ _ (λ ks. Each P ks)
      (λ _. Each_weaker (λ k. (0 ≤ k) × (k < ZONE_BYTES)) P (λ k h. h.1) _
      (starts_from_within f.1.zone 0 ZONE_BYTES ZONE_BYTES f.1.pointer (omega arith))) (λ _. tt)

  starts_grown : starts_of (run ++ f ∷ []) ≡ starts_of run ++ map (λ s. ZONE_BYTES * length run + s) firsts
  unfolding firsts
  starts_grown = starts_of-more run f zones ∙ ap (λ ks. starts_of run ++ ks) (starts_in_zone-last run f zones)

  drop_grown : (s : ℕ) → s < ZONE_BYTES * length run →
      drop s (zones_of (run ++ f ∷ [])) ≡ drop s (zones_of run) ++ f.1.zone
  drop_grown s h =
      let inside : s ≤ length (zones_of run) = omega (arith, length-zones_of run zones) in
      ap (λ zs. drop s zs) (zones_of-more run f) ∙ drop-append-le s (zones_of run) f.1.zone inside

  -- the packets that end in an earlier frame stay
  pub packets_ending-earlier : (channel place : ℕ) → (f.0 ≡ place → ⊥) →
      packets_ending channel place (run ++ f ∷ []) ≡ packets_ending channel place run
  unfolding packets_ending
  packets_ending-earlier channel place ne =
      let grown = run ++ f ∷ [] in
      let E = ends_in grown place in
      let pk = packet_at channel (zones_of grown) in
      let old : map pk (filter E (starts_of run)) ≡ map (packet_at channel (zones_of run))
      (filter (ends_in run place) (starts_of run)) =
      map_filter_same pk (packet_at channel (zones_of run)) E (ends_in run place) (starts_of run)
      (Each_weaker (λ s. s < ZONE_BYTES * length run) (λ s. (E s ≡ ends_in run place s) ×
      (ends_in run place s ≡ true → pk s ≡ packet_at channel (zones_of run) s))
      (λ s h. (
        ends_in_earlier run f zones long place s ne h,
        λ d. ap (λ zs. packet_at channel zs s) (zones_of-more run f)
            ∙ packet_at-append channel (zones_of run) f.1.zone s (ends_whole run place s d),
      ))
      (starts_of run) (starts_of_within run)) in
      let new : filter E (map (λ s. ZONE_BYTES * length run + s) firsts) ≡ [] =
      filter_none E (map (λ s. ZONE_BYTES * length run + s) firsts)
      (Each-map (λ s. E s ≡ false) (λ s. ZONE_BYTES * length run + s) firsts
      (Each_weaker (λ q. q < ZONE_BYTES) (λ q. E (ZONE_BYTES * length run + q) ≡ false)
      (λ q h. ends_in-last run f zones long place q h ∙ and_right (is_whole f.1.zone q) (eqb f.0 place)
      (ne_eqb f.0 place ne)) firsts firsts_within)) in
      ap (λ ks. map pk (filter E ks)) starts_grown ∙ ap (λ ks. map pk ks)
      (filter-append E (starts_of run) (map (λ s. ZONE_BYTES * length run + s) firsts)
      ∙ ap (λ ks. filter E (starts_of run) ++ ks) new ∙ append-nil (filter E (starts_of run)))
      ∙ old

  -- those that end in the new frame: what the open packets become, and the packets inside its zone
  pub packets_ending-new : (channel : ℕ) → ((u : ℕ) → u < length run → place_of run u ≡ f.0 → ⊥) →
      packets_ending channel f.0 (run ++ f ∷ [])
      ≡ flat_map (completed_packet channel f.1.zone f.1.pointer) (open_packets run)
      ++ cond (ltb f.1.pointer ZONE_BYTES) (packets_inside channel f.1.zone f.1.pointer) []
  unfolding packets_ending open_packets completed_packet packets_inside starts_after firsts
  packets_ending-new channel apart =
      let grown = run ++ f ∷ [] in
      let E = ends_in grown f.0 in
      let pk = packet_at channel (zones_of grown) in
      let z = f.1.zone in
      let p = f.1.pointer in
      let n = ZONE_BYTES * length run in
      let rest = λ (s : ℕ). drop s (zones_of run) in
      let F = λ (b : List ℕ). cond (ends_with b z p) (packet_at channel (b ++ z) 0 ∷ []) [] in
      let Q = λ (b : List ℕ). ends_with b z p in
      let old : map pk (filter E (starts_of run)) ≡ flat_map F
      (map rest (filter (is_open_packet run) (starts_of run))) =
      flat_map_open F pk rest E (is_open_packet run) Q (starts_of run)
      (Each_weaker (λ s. s < n) (λ s. (E s ≡ (is_open_packet run s && Q (rest s))) ×
      (F (rest s) ≡ cond (Q (rest s)) (pk s ∷ []) []))
      (λ s h. (
        ends_in_new run f zones long apart s h,
        ap (λ k. cond (Q (rest s)) (k ∷ []) []) (sym (packet_at-drop channel (zones_of grown) s
            ∙ ap (λ zs. packet_at channel zs 0) (drop_grown s h))),
      ))
      (starts_of run) (starts_of_within run)) in
      let new : map pk (filter E (map (λ s. n + s) firsts)) ≡ map (packet_at channel z) (filter (is_whole z) firsts) =
      map_filter_map pk (packet_at channel z) E (is_whole z) n firsts
      (Each_weaker (λ q. q < ZONE_BYTES) (λ q. (E (n + q) ≡ is_whole z q) × (pk (n + q) ≡ packet_at channel z q))
      (λ q h. (
        ends_in-last run f zones long f.0 q h ∙ ap (λ b. is_whole z q && b) (eq-eqb f.0 f.0 refl)
            ∙ and-true (is_whole z q),
        ap (λ zs. packet_at channel zs (n + q)) (zones_of-more run f)
            ∙ packet_at-behind channel (zones_of run) z n q (length-zones_of run zones),
      ))
      firsts firsts_within) in
      let cases : map (packet_at channel z) (filter (is_whole z) firsts) ≡
      cond (ltb p ZONE_BYTES) (map (packet_at channel z)
      (filter (is_whole z) (starts_from z ZONE_BYTES ZONE_BYTES p))) [] =
      elim (ltb p ZONE_BYTES) as (λ b. map (packet_at channel z)
      (filter (is_whole z) (cond b (starts_from z ZONE_BYTES ZONE_BYTES p) [])) ≡
      cond b (map (packet_at channel z) (filter (is_whole z)
      (starts_from z ZONE_BYTES ZONE_BYTES p))) []) [ true ↦ refl | false ↦ refl ] in
      ap (λ ks. map pk (filter E ks)) starts_grown
      ∙ ap (λ ks. map pk ks) (filter-append E (starts_of run) (map (λ s. n + s) firsts))
      ∙ map-append pk (filter E (starts_of run)) (filter E (map (λ s. n + s) firsts))
      ∙ ap₂ (λ xs ys. xs ++ ys) old (new ∙ cases)

  -- the packets that are open then
  pub open_packets-more :
      open_packets (run ++ f ∷ [])
      ≡ flat_map (continued_packet f.1.zone f.1.pointer) (open_packets run)
      ++ cond (ltb f.1.pointer ZONE_BYTES) (map (λ s. drop s f.1.zone) (starts_unfinished f.1.zone f.1.pointer)) []
  unfolding open_packets continued_packet starts_unfinished starts_after firsts
  open_packets-more =
      let grown = run ++ f ∷ [] in
      let O = is_open_packet grown in
      let pk = λ (s : ℕ). drop s (zones_of grown) in
      let z = f.1.zone in
      let p = f.1.pointer in
      let n = ZONE_BYTES * length run in
      let rest = λ (s : ℕ). drop s (zones_of run) in
      let Q = λ (b : List ℕ). goes_on_after b z p in
      let F = λ (b : List ℕ). cond (goes_on_after b z p) ((b ++ z) ∷ []) [] in
      let U = λ (s : ℕ). not (is_whole z s) in
      let old : map pk (filter O (starts_of run)) ≡ flat_map F
      (map rest (filter (is_open_packet run) (starts_of run))) =
      flat_map_open F pk rest O (is_open_packet run) Q (starts_of run)
      (Each_weaker (λ s. s < n) (λ s. (O s ≡ (is_open_packet run s && Q (rest s))) ×
      (F (rest s) ≡ cond (Q (rest s)) (pk s ∷ []) []))
      (λ s h. (
        is_open_packet-more run f zones long s h,
        ap (λ k. cond (Q (rest s)) (k ∷ []) [])
            (sym (drop_grown s h)),
      ))
      (starts_of run) (starts_of_within run)) in
      let behind : (q : ℕ) → drop (n + q) (zones_of grown) ≡ drop q z =
      λ q. ap (λ zs. drop (n + q) zs) (zones_of-more run f) ∙ sym (drop-drop q n (zones_of run ++ z))
      ∙ ap (λ zs. drop q zs) (drop_at (zones_of run) z n (length-zones_of run zones)) in
      let new : map pk (filter O (map (λ s. n + s) firsts)) ≡ map (λ s. drop s z) (filter U firsts) =
      map_filter_map pk (λ s. drop s z) O U n firsts
      (Each_weaker (λ q. q < ZONE_BYTES) (λ q. (O (n + q) ≡ U q) × (pk (n + q) ≡ drop q z))
      (λ q h. (is_open_packet-last run f zones long q h, behind q)) firsts firsts_within) in
      let cases : map (λ s. drop s z) (filter U firsts) ≡
      cond (ltb p ZONE_BYTES) (map (λ s. drop s z) (filter U (starts_from z ZONE_BYTES ZONE_BYTES p))) [] =
      elim (ltb p ZONE_BYTES) as (λ b. map (λ s. drop s z)
      (filter U (cond b (starts_from z ZONE_BYTES ZONE_BYTES p) [])) ≡
      cond b (map (λ s. drop s z)
      (filter U (starts_from z ZONE_BYTES ZONE_BYTES p))) []) [ true ↦ refl | false ↦ refl ] in
      ap (λ ks. map pk (filter O ks)) starts_grown
      ∙ ap (λ ks. map pk ks) (filter-append O (starts_of run) (map (λ s. n + s) firsts))
      ∙ map-append pk (filter O (starts_of run)) (filter O (map (λ s. n + s) firsts))
      ∙ ap₂ (λ xs ys. xs ++ ys) old (new ∙ cases)
