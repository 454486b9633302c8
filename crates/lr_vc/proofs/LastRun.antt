-- One frame more in a channel: it joins the last run, or begins a run of its own.
use Rattle.std.proofs.Common.{◌≡◌, ℕ, zero, suc, ◌/◌, ◌-◌, ◌<◌, Bool, true, false, cond, List, [], ◌∷◌, ◌++◌, map}
use Rattle.std.proofs.Common.{length, flat_map, refl, sym, ap, ap₂, ◌∙◌, subst, ⊎_elim, arith, append-nil, append_assoc}
use Rattle.std.proofs.Common.{eqb, ne_eqb}
use Rattle.std.proofs.lemmas.List.Concat.{flat_map-append}
use Rattle.std.proofs.lemmas.Bool.{and_parts, and_right, and_left, cases_Bool}
use Rattle.std.specs.List.{AllByRecursion as Each}
use Rattle.lr_bits.specs.declared.sizes.TheConstants.{ZONE_BYTES}
use Rattle.lr_vc.specs.Frame.{Fields}
use Rattle.lr_vc.specs.Runs.{Run, begins_at, next_counter, put_before, runs_of}
use Rattle.lr_vc.specs.Packets.{zones_of, place_of, packet_end, is_whole, starts_of, is_delivered, packet_at, ends_in}
use Rattle.lr_vc.specs.Packets.{packets_ending}
use Rattle.lr_vc.specs.Standing.{last_counter, last_run}
use Rattle.lr_vc.specs.Steps.{follows}
use Rattle.lr_vc.proofs.Lists.{Each_left, Each_right, Each_any, filter_none, flat_map_none}
use Rattle.lr_vc.proofs.Starts.{packet_end_is, is_whole_true}
use Rattle.lr_vc.proofs.Grown.{AreZones, length-zones_of}

-- the runs before and after: the last one has a first frame, and grows or is followed by a new one
record Grows (before after : List Run) (joins : Bool) (g : ℕ × Fields) : Type 0 where
  earlier : List Run
  first : ℕ × Fields
  rest : Run
  was : before ≡ earlier ++ (first ∷ rest) ∷ []
  becomes : after ≡ cond joins (earlier ++ (first ∷ (rest ++ g ∷ [])) ∷ []) (earlier ++ (first ∷ rest) ∷ (g ∷ []) ∷ [])

put_step : (f : ℕ × Fields) (earlier : List Run) (first : ℕ × Fields) (rest : Run) (joins : Bool) (g : ℕ × Fields) →
    Grows (put_before f (earlier ++ (first ∷ rest) ∷ []))
    (put_before f (cond joins (earlier ++ (first ∷ (rest ++ g ∷ [])) ∷ [])
    (earlier ++ (first ∷ rest) ∷ (g ∷ []) ∷ []))) joins g
unfolding put_before
put_step f [] first rest joins g =
    let next = next_counter f.1.counter in
    let old = λ (b : Bool). cond b ((f ∷ first ∷ rest) ∷ []) ((f ∷ []) ∷ (first ∷ rest) ∷ []) in
    let new =
    λ (b j : Bool). cond j (cond b ((f ∷ first ∷ (rest ++ g ∷ [])) ∷ [])
    ((f ∷ []) ∷ (first ∷ (rest ++ g ∷ [])) ∷ []))
    (cond b ((f ∷ first ∷ rest) ∷ (g ∷ []) ∷ []) ((f ∷ []) ∷ (first ∷ rest) ∷ (g ∷ []) ∷ [])) in
    let both : (b j : Bool) → Grows (old b) (new b j) j g =
    λ b j. elim b as (λ b. Grows (old b) (new b j) j g) [
      | true ↦ elim j as (λ j. Grows (old true) (new true j) j g) [
        | true ↦ record { earlier = []; first = f; rest = first ∷ rest; was = refl; becomes = refl }
        | false ↦ record { earlier = []; first = f; rest = first ∷ rest; was = refl; becomes = refl }
      ]
      | false ↦ elim j as (λ j. Grows (old false) (new false j) j g) [
        | true ↦ record { earlier = (f ∷ []) ∷ []; first = first; rest = rest; was = refl; becomes = refl }
        | false ↦ record { earlier = (f ∷ []) ∷ []; first = first; rest = rest; was = refl; becomes = refl }
      ]
    ] in
    let here = eqb first.1.counter next in
    let shape : new here joins ≡ put_before f (cond joins ([] ++ (first ∷ (rest ++ g ∷ [])) ∷ [])
    ([] ++ (first ∷ rest) ∷ (g ∷ []) ∷ [])) =
    elim joins as (λ j. new here j ≡ put_before f (cond j ((first ∷ (rest ++ g ∷ [])) ∷ [])
    ((first ∷ rest) ∷ (g ∷ []) ∷ []))) [ true ↦ refl | false ↦ refl ] in
    subst (λ after. Grows (old here) after joins g) shape (both here joins)
put_step f (run ∷ runs) first rest joins g =
    let next = next_counter f.1.counter in
    let tail = runs ++ (first ∷ rest) ∷ [] in
    let grown = runs ++ (first ∷ (rest ++ g ∷ [])) ∷ [] in
    let more = runs ++ (first ∷ rest) ∷ (g ∷ []) ∷ [] in
    let old = λ (b : Bool). cond b ((f ∷ run) ∷ tail) ((f ∷ []) ∷ run ∷ tail) in
    let new =
    λ (b j : Bool). cond j (cond b ((f ∷ run) ∷ grown) ((f ∷ []) ∷ run ∷ grown))
    (cond b ((f ∷ run) ∷ more) ((f ∷ []) ∷ run ∷ more)) in
    let both : (b j : Bool) → Grows (old b) (new b j) j g =
    λ b j. elim b as (λ b. Grows (old b) (new b j) j g) [
      | true ↦ elim j as (λ j. Grows (old true) (new true j) j g) [
        | true ↦ record { earlier = (f ∷ run) ∷ runs; first = first; rest = rest; was = refl; becomes = refl }
        | false ↦ record { earlier = (f ∷ run) ∷ runs; first = first; rest = rest; was = refl; becomes = refl }
      ]
      | false ↦ elim j as (λ j. Grows (old false) (new false j) j g) [
        | true ↦ record { earlier = (f ∷ []) ∷ run ∷ runs; first = first; rest = rest; was = refl; becomes = refl }
        | false ↦ record { earlier = (f ∷ []) ∷ run ∷ runs; first = first; rest = rest; was = refl; becomes = refl }
      ]
    ] in
    let here = begins_at next run in
    let shape : new here joins ≡ put_before f (cond joins ((run ∷ runs) ++ (first ∷ (rest ++ g ∷ [])) ∷ [])
    ((run ∷ runs) ++ (first ∷ rest) ∷ (g ∷ []) ∷ [])) =
    elim joins as (λ j. new here j ≡ put_before f (cond j (run ∷ grown) (run ∷ more))) [ true ↦ refl | false ↦ refl ] in
    subst (λ after. Grows (old here) after joins g) shape (both here joins)

put_grows : (f : ℕ × Fields) (before after : List Run) (joins : Bool) (g : ℕ × Fields) → Grows before after joins g →
    Grows (put_before f before) (put_before f after) joins g
put_grows f before after joins g h =
    subst (λ b. Grows (put_before f b) (put_before f after) joins g) (sym h.was)
    (subst (λ a. Grows (put_before f (h.earlier ++ (h.first ∷ h.rest) ∷ [])) (put_before f a) joins g) (sym h.becomes)
    (put_step f h.earlier h.first h.rest joins g))

runs_grow : (f : ℕ × Fields) (fs : List (ℕ × Fields)) (g : ℕ × Fields) →
    Grows (runs_of (f ∷ fs)) (runs_of ((f ∷ fs) ++ g ∷ [])) (follows (last_counter (f ∷ fs)) g.1.counter) g
unfolding runs_of put_before
runs_grow f [] g =
    let joins = eqb g.1.counter (next_counter f.1.counter) in
    elim joins as (λ j. Grows ((f ∷ []) ∷ []) (cond j ((f ∷ g ∷ []) ∷ []) ((f ∷ []) ∷ (g ∷ []) ∷ [])) j g) [
      | true ↦ record { earlier = []; first = f; rest = []; was = refl; becomes = refl }
      | false ↦ record { earlier = []; first = f; rest = []; was = refl; becomes = refl }
    ]
runs_grow f (f' ∷ fs) g =
    put_grows f (runs_of (f' ∷ fs)) (runs_of ((f' ∷ fs) ++ g ∷ [])) (follows (last_counter (f' ∷ fs)) g.1.counter) g
    (runs_grow f' fs g)

last_run-append : (runs : List Run) (run : Run) → last_run (runs ++ run ∷ []) ≡ run
last_run-append [] run = refl
last_run-append (r ∷ []) run = refl
last_run-append (r ∷ r' ∷ rs) run = last_run-append (r' ∷ rs) run

last_run-append2 : (runs : List Run) (run next : Run) → last_run (runs ++ run ∷ next ∷ []) ≡ next
last_run-append2 runs run next =
    ap last_run (sym (append_assoc runs (run ∷ []) (next ∷ []))) ∙ last_run-append (runs ++ run ∷ []) next

-- ---- what follows for the last run, and for what is made of all of them

pub last_run-more : (fs : List (ℕ × Fields)) (g : ℕ × Fields) →
    last_run (runs_of (fs ++ g ∷ [])) ≡ cond (follows (last_counter fs) g.1.counter) (last_run (runs_of fs) ++ g ∷ [])
    (g ∷ [])
unfolding runs_of put_before
last_run-more [] g = refl
last_run-more (f ∷ fs) g =
    let h = runs_grow f fs g in
    let joins = follows (last_counter (f ∷ fs)) g.1.counter in
    let last : last_run (runs_of (f ∷ fs)) ≡ h.first ∷ h.rest =
    ap last_run h.was ∙ last_run-append h.earlier (h.first ∷ h.rest) in
    let Q : Bool → Type 0 =
    λ j. last_run (cond j (h.earlier ++ (h.first ∷ (h.rest ++ g ∷ [])) ∷ [])
    (h.earlier ++ (h.first ∷ h.rest) ∷ (g ∷ []) ∷ [])) ≡ cond j (last_run (runs_of (f ∷ fs)) ++ g ∷ []) (g ∷ []) in
    ap last_run h.becomes ∙
    elim joins as Q [
      | true ↦ last_run-append h.earlier (h.first ∷ (h.rest ++ g ∷ [])) ∙ ap (λ r. r ++ g ∷ []) (sym last)
      | false ↦ last_run-append2 h.earlier (h.first ∷ h.rest) (g ∷ [])
    ]

pub Each-put_before : (P : ℕ × Fields → Type 0) (f : ℕ × Fields) (runs : List Run) → P f →
    Each (λ run. Each P run) runs → Each (λ run. Each P run) (put_before f runs)
unfolding put_before
Each-put_before P f [] p _ = ((p, tt), tt)
Each-put_before P f (run ∷ runs) p h =
    elim (begins_at (next_counter f.1.counter) run) as (λ b.
    Each (λ run. Each P run) (cond b ((f ∷ run) ∷ runs) ((f ∷ []) ∷ run ∷ runs)))
    [ true ↦ ((p, h.0), h.1) | false ↦ ((p, tt), h) ]

pub Each-runs_of : (P : ℕ × Fields → Type 0) (fs : List (ℕ × Fields)) → Each P fs →
    Each (λ run. Each P run) (runs_of fs)
unfolding runs_of
Each-runs_of P [] _ = tt
Each-runs_of P (f ∷ fs) h = Each-put_before P f (runs_of fs) h.0 (Each-runs_of P fs h.1)

Each-last_run : (P : Run → Type 0) → P [] → (runs : List Run) → Each P runs → P (last_run runs)
Each-last_run P none [] _ = none
Each-last_run P none (run ∷ []) h = h.0
Each-last_run P none (run ∷ next ∷ runs) h = Each-last_run P none (next ∷ runs) h.1

pub zones_of-last_run : (fs : List (ℕ × Fields)) → AreZones fs → AreZones (last_run (runs_of fs))
zones_of-last_run fs h = Each-last_run AreZones tt (runs_of fs) (Each-runs_of (λ f. length f.1.zone ≡ ZONE_BYTES) fs h)

pub places_of-last_run : (n : ℕ) (fs : List (ℕ × Fields)) → Each (λ f. f.0 < n) fs →
    Each (λ f. f.0 < n) (last_run (runs_of fs))
places_of-last_run n fs h =
    Each-last_run (λ run. Each (λ f. f.0 < n) run) tt (runs_of fs) (Each-runs_of (λ f. f.0 < n) fs h)

-- what changes with no run but stays with each that grows, and is nothing of a new one, stays
pub flat_map-runs_same : {X : Type 0} (F : Run → List X) (fs : List (ℕ × Fields)) (g : ℕ × Fields) → AreZones fs →
    ((run : Run) → AreZones run → F (run ++ g ∷ []) ≡ F run) → F (g ∷ []) ≡ [] →
    flat_map F (runs_of (fs ++ g ∷ [])) ≡ flat_map F (runs_of fs)
unfolding runs_of put_before
flat_map-runs_same F [] g zones same none = append-nil (F (g ∷ [])) ∙ none
flat_map-runs_same F (f ∷ fs) g zones same none =
    let h = runs_grow f fs g in
    let joins = follows (last_counter (f ∷ fs)) g.1.counter in
    let last = h.first ∷ h.rest in
    let all : Each AreZones (h.earlier ++ last ∷ []) =
    subst (λ rs. Each AreZones rs) h.was (Each-runs_of (λ f. length f.1.zone ≡ ZONE_BYTES) (f ∷ fs) zones) in
    let of_last : AreZones last = (Each_right AreZones h.earlier (last ∷ []) all).0 in
    let was : flat_map F (runs_of (f ∷ fs)) ≡ flat_map F h.earlier ++ (F last ++ []) =
    ap (flat_map F) h.was ∙ flat_map-append F h.earlier (last ∷ []) in
    let Q : Bool → Type 0 =
    λ j. flat_map F (cond j (h.earlier ++ (h.first ∷ (h.rest ++ g ∷ [])) ∷ [])
    (h.earlier ++ last ∷ (g ∷ []) ∷ [])) ≡ flat_map F h.earlier ++ (F last ++ []) in
    ap (flat_map F) h.becomes ∙
    elim joins as Q [
      | true ↦ flat_map-append F h.earlier ((h.first ∷ (h.rest ++ g ∷ [])) ∷ [])
          ∙ ap (λ x. flat_map F h.earlier ++ (x ++ [])) (same last of_last)
      | false ↦ flat_map-append F h.earlier (last ∷ (g ∷ []) ∷ [])
          ∙ ap (λ x. flat_map F h.earlier ++ (F last ++ x)) (append-nil (F (g ∷ [])) ∙ none)
    ]
    ∙ sym was

-- what is nothing of each run there was is what it is of the last one
pub flat_map-runs_last : {X : Type 0} (F : Run → List X) (fs : List (ℕ × Fields)) (g : ℕ × Fields) →
    Each (λ run. F run ≡ []) (runs_of fs) → flat_map F (runs_of (fs ++ g ∷ [])) ≡ F (last_run (runs_of (fs ++ g ∷ [])))
unfolding runs_of put_before
flat_map-runs_last F [] g none = append-nil (F (g ∷ []))
flat_map-runs_last F (f ∷ fs) g none =
    let h = runs_grow f fs g in
    let joins = follows (last_counter (f ∷ fs)) g.1.counter in
    let last = h.first ∷ h.rest in
    let grown = h.first ∷ (h.rest ++ g ∷ []) in
    let N : Run → Type 0 = λ run. F run ≡ [] in
    let all : Each N (h.earlier ++ last ∷ []) = subst (λ rs. Each N rs) h.was none in
    let of_earlier : flat_map F h.earlier ≡ [] = flat_map_none F h.earlier (Each_left N h.earlier (last ∷ []) all) in
    let of_last : F last ≡ [] = (Each_right N h.earlier (last ∷ []) all).0 in
    let Q : Bool → Type 0 =
    λ j. flat_map F (cond j (h.earlier ++ grown ∷ []) (h.earlier ++ last ∷ (g ∷ []) ∷ [])) ≡
    F (last_run (cond j (h.earlier ++ grown ∷ []) (h.earlier ++ last ∷ (g ∷ []) ∷ []))) in
    let cases : Q joins =
    elim joins as Q [
      | true ↦ flat_map-append F h.earlier (grown ∷ []) ∙ ap₂ (λ x y. x ++ y) of_earlier (append-nil (F grown))
          ∙ ap F (sym (last_run-append h.earlier grown))
      | false ↦ flat_map-append F h.earlier (last ∷ (g ∷ []) ∷ [])
          ∙ ap₂ (λ x y. x ++ (y ++ (F (g ∷ []) ++ []))) of_earlier of_last
          ∙ append-nil (F (g ∷ [])) ∙ ap F (sym (last_run-append2 h.earlier last (g ∷ [])))
    ] in
    ap (flat_map F) h.becomes ∙ cases ∙ ap (λ rs. F (last_run rs)) (sym h.becomes)

-- ---- the places of a run

pub place_of_below : (n : ℕ) (run : Run) (u : ℕ) → Each (λ f. f.0 < n) run → u < length run → place_of run u < n
unfolding place_of
place_of_below n [] u h k = absurd (omega arith)
place_of_below n (f ∷ fs) zero h k = h.0
place_of_below n (f ∷ fs) (suc u) h k = place_of_below n fs u h.1 (omega arith)

-- no packet of a run ends in a frame that comes after all of its own
pub packets_ending_none : (channel n : ℕ) (run : Run) → AreZones run → Each (λ f. f.0 < n) run →
    packets_ending channel n run ≡ []
unfolding packets_ending ends_in is_delivered
packets_ending_none channel n run zones below =
    let none : (s : ℕ) → ends_in run n s ≡ false =
    λ s.
    let u = (packet_end (zones_of run) s - 1) / ZONE_BYTES in
    ⊎_elim (λ d.
    let whole = is_whole_true (zones_of run) s (and_parts (is_whole (zones_of run) s) _ d).0 in
    let inside : u < length run = omega (arith, whole.1, length-zones_of run zones, packet_end_is (zones_of run) s) in
    let lower = place_of_below n run u below inside in
    and_right (is_delivered run s) (eqb (place_of run u) n) (ne_eqb (place_of run u) n (λ e. omega arith)))
    (λ d. and_left (is_delivered run s) (eqb (place_of run u) n) d)
    (cases_Bool (is_delivered run s)) in
    ap (map (packet_at channel (zones_of run))) (filter_none (ends_in run n) (starts_of run)
    (Each_any (λ s. ends_in run n s ≡ false) none (starts_of run)))
