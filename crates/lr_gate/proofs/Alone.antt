-- Where the conductor's seat is the only one, its view tells the cells.
use Rattle.std.proofs.Common.{◌≡◌, ℕ, zero, suc, ◌+◌, ◌*◌, ◌%◌, ◌<◌, ◌≤◌, ◌≢◌, false, List, [], ◌∷◌, length, get_or}
use Rattle.std.proofs.Common.{sym, ap, ◌∙◌, subst, arith, None}
use mathlib.Core.Option.{some, some-injective, some-ne-none}
use lib.ListN.{get_elem?}
use Rattle.lr_gatecore.specs.declared.stage.Stage.{Stage}
use Rattle.lr_gatecore.specs.declared.stage.Stage.TheVariants.{Ready, Busy, Done}
use Rattle.lr_gatecore.specs.declared.sizes.TheConstants.{WORD_BASE}
use Rattle.lr_gate.specs.declared.view.View.{View}
use Rattle.lr_gate.specs.Words.{cell_word, finish_count}
use Rattle.lr_gate.specs.Shows.{held_job, count_of, finishes_of, IsHeldBy, Lies, Shows, place_in}
use Rattle.lr_gate.specs.Steps.{FoundAlone}
use Rattle.lr_gate.proofs.Lists.{at_below, none_not_some}
use Rattle.lr_gate.proofs.Keeps.{St, ring}

module _ {J : Type 0} where
  lone_counts : (i : ℕ) (vs : List (View J)) (v : View J) → get_elem? vs 0 ≡ some v → length vs ≡ 1
      → finishes_of i vs ≡ count_of i v.finished
  lone_counts i [] v at one = absurd (omega (arith, one))
  lone_counts i (x ∷ []) v at one = let e : count_of i x.finished + 0 ≡ count_of i x.finished = omega arith in
      e ∙ ap (λ (y : View J). count_of i y.finished) (some-injective x v at)
  lone_counts i (x ∷ y ∷ ys) v at one = absurd (omega (arith, one))

  lone_seat : (vs : List (View J)) (v u : View J) (w : ℕ) → get_elem? vs 0 ≡ some v → length vs ≡ 1
      → get_elem? vs w ≡ some u → v ≡ u
  lone_seat [] v u w at one is = absurd (some-ne-none v (sym at))
  lone_seat (x ∷ []) v u zero at one is = some-injective v u (sym at ∙ is)
  lone_seat (x ∷ []) v u (suc w) at one is = absurd (some-ne-none u (sym is))
  lone_seat (x ∷ y ∷ ys) v u w at one is = absurd (omega (arith, one))

module _ {J D : Type 0} (f : J → D) (crew : ℕ) where
  abbrev Told : View J → ℕ → ℕ → Type 0
  Told v p word = (count_of p v.finished ≡ 0 → word ≡ p * WORD_BASE + 1)
      × (count_of p v.finished ≢ 0 → word ≡ p * WORD_BASE + 2)

  by_stage : (n : ℕ) (s : St J D) (r : Shows f (ring n crew) s) (p : ℕ) (st : Stage) → length s.views ≡ 1
      → r.me.held ≡ None → r.me.taken ≤ p → p < r.me.taken + n → get_elem? r.stages p ≡ some st
      → Told r.me p (get_or s.words (p % n + 1) 0)
  by_stage n s r p Ready one free a b at = let ok = r.each_cell p a b in
      let word : get_or s.words (p % n + 1) 0 ≡ p * WORD_BASE + 1 = ok.word ∙ ap (cell_word p) at in
      let count : count_of p r.me.finished ≡ 0 = sym (lone_counts p s.views r.me r.first one)
      ∙ (r.finishes p ∙ ap finish_count at) in (λ e. word, λ ne. absurd (ne count))
  by_stage n s r p Done one free a b at = let ok = r.each_cell p a b in
      let word : get_or s.words (p % n + 1) 0 ≡ p * WORD_BASE + 2 = ok.word ∙ ap (cell_word p) at in
      let count : count_of p r.me.finished ≡ 1 = sym (lone_counts p s.views r.me r.first one)
      ∙ (r.finishes p ∙ ap finish_count at) in (λ e. absurd (omega (arith, e, count)), λ ne. word)
  by_stage n s r p (Busy w) one free a b at = let ok = r.each_cell p a b in
      let lies : Lies f r.me s (place_in n p) (some (Busy w)) =
      subst (Lies f r.me s (place_in n p)) at ok.lies in
      let by : IsHeldBy s.views w (held_job (p % n) p lies.0) = lies.3 in
      let is : r.me ≡ by.0 = lone_seat s.views r.me by.0 w r.first one by.1 in
      absurd (none_not_some (held_job (p % n) p lies.0) (sym free ∙ (ap (λ (v : View J). v.held) is ∙ by.2)))

  found_first : (n : ℕ) (s : St J D) (r : Shows f (ring n crew) s) (i : ℕ) → FoundAlone n i r.me (get_or s.words i 0)
  found_first n s r i none_off nought free = let one : length s.views ≡ 1 = r.seats ∙ ap (λ z. z + 1) none_off in (
    λ p a b is. let got = at_below r.stages p (subst (λ z. p < z) (sym r.as_many) b) in
        subst (λ z. Told r.me p (get_or s.words z 0)) is
        (by_stage n s r p got.0 one free a (let many = r.as_many in let in_n = r.within in omega arith) got.1),
    λ p l. let count : count_of p r.me.finished ≡ 1 = sym (lone_counts p s.views r.me r.first one)
        ∙ (r.finishes p ∙ ap finish_count (r.past p l)) in λ e. omega (arith, e, count),
  )

  -- what a seat finds in a word
  pub found_alone : (n : ℕ) (s : St J D) (r : Shows f (ring n crew) s) (id : ℕ) (v : View J) (i : ℕ)
      → get_elem? s.views id ≡ some v → v.spent ≡ false → FoundAlone n i v (get_or s.words i 0)
  found_alone n s r id v i at live none_off nought free =
      let first : id ≡ 0 = sym (r.each_seat id v at live).numbered ∙ nought in
      let is : r.me ≡ v = some-injective r.me v (sym r.first ∙ (ap (get_elem? s.views) (sym first) ∙ at)) in
      subst (λ (u : View J). FoundAlone n i u (get_or s.words i 0)) is (found_first n s r i) none_off nought free
