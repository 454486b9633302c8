-- What the rule says, cell by cell.
use Rattle.std.proofs.Common.{◌≡◌, ◌≢◌, ℕ, ◌+◌, ◌%◌, ◌<◌, ◌≤◌, ◌&&◌, ◌==◌, Bool, true, false, cond, length, get_or}
use Rattle.std.proofs.Common.{sym, refl, ap, ◌∙◌, subst, arith, le_refl, Some}
use Rattle.std.specs.Prelude.{◌↔◌}
use mathlib.Core.Option.{some, none, some-injective, some-ne-none}
use mathlib.Core.Option as maybe
use mathlib.Core.Logic.{dite}
use native.Mathlib.Decide.{ℕ_discrete, dec_lt}
use lib.ListN.{get_elem?}
use Rattle.lr_gatecore.specs.declared.stage.Stage.{Stage}
use Rattle.lr_gatecore.specs.declared.stage.Stage.TheVariants.{Ready, Busy, Done}
use Rattle.lr_gatecore.specs.Machine.{HasStage}
use Rattle.lr_gate.specs.declared.slot_value.SlotValue.TheVariants.{Empty, Made}
use Rattle.lr_gate.specs.declared.view.Held.{Held}
use Rattle.lr_gate.specs.declared.view.View.{View}
use Rattle.lr_gate.specs.Words.{cell_word, finish_count}
use Rattle.lr_gate.specs.Shows.{held_job, is_being_taken, Lies, Shows, machine_shown, place_in}
use Rattle.lr_gate.specs.Cells.{ShowsMachine}
use Rattle.lr_gatecore.proofs.Lists.{at_length, at_above}
use Rattle.lr_gate.proofs.Lists.{at_below, none_not_some, inside}
use Rattle.lr_gate.proofs.Keeps.{St, ring}
use Rattle.lr_gate.proofs.Takes.{not_hidden, taking_hides}
use Rattle.lr_gate.proofs.Works.{differ, one_owner, not_true}
use Rattle.lr_gate.proofs.Claims.{spot}

not_done : (o : maybe.Option Stage) → o ≢ some Done → finish_count o ≡ 0
not_done none ne = refl
not_done (some Ready) ne = refl
not_done (some (Busy w)) ne = refl
not_done (some Done) ne = absurd (ne refl)

-- a word that isn't free tells a stage
no_stage : (p : ℕ) (o : maybe.Option Stage) → cell_word p o ≡ 0 → o ≡ none
no_stage p none e = refl
no_stage p (some Ready) e = absurd (omega arith)
no_stage p (some Done) e = absurd (omega arith)
no_stage p (some (Busy w)) e = absurd (omega arith)

module _ {J : Type 0} where
  not_hid : (me : View J) (p : ℕ) → ¬ ((me.taking ≡ true) × (p ≡ me.taken)) → is_being_taken me p ≡ false
  not_hid me p no_take = dite (ℕ_discrete p me.taken)
      (λ e. ap (λ (b : Bool). b && (p == me.taken)) (not_true me.taking (λ t. no_take (t, e))))
      (λ ne. not_hidden me p ne)

module _ {J D : Type 0} (f : J → D) (crew : ℕ) where
  -- a job with a stage that isn't done lies in the window
  not_past : (n : ℕ) (s : St J D) (r : Shows f (ring n crew) s) (i w : ℕ) → get_elem? r.stages i ≡ some (Busy w)
      → r.me.taken ≤ i
  not_past n s r i w e =
      dite (dec_lt i r.me.taken) (λ l. let d : get_elem? r.stages i ≡ some Done = r.past i l in
      absurd (let bad : some (Busy w) ≡ some Done = sym e ∙ d in cc)) (λ ge. omega arith)

  cell_at : (n : ℕ) (s : St J D) (r : Shows f (ring n crew) s) (i : ℕ) (st : Stage) → r.me.taken ≤ i
      → get_elem? r.stages i ≡ some st → (get_or s.words (i % n + 1) 0 ≡ cell_word i (some st))
      × Lies f r.me s (place_in n i) (some st)
  cell_at n s r i st a e = let b = at_length r.stages i st e in
      let w : length r.stages ≤ r.me.taken + n = r.within in let ok = r.each_cell i a (omega arith) in
      (ok.word ∙ ap (cell_word i) e, subst (Lies f r.me s (place_in n i)) e ok.lies)

  pub busy_by : (n : ℕ) (s : St J D) (r : Shows f (ring n crew) s) (i w : ℕ) → get_elem? r.stages i ≡ some (Busy w)
      → Lies f r.me s (place_in n i) (some (Busy w))
  busy_by n s r i w e = (cell_at n s r i (Busy w) (not_past n s r i w e) e).1

  holds_by : (n : ℕ) (s : St J D) (r : Shows f (ring n crew) s) (w : ℕ) (v : View J) (h : Held J) (b : Bool)
      → v.spent ≡ b → get_elem? s.views w ≡ some v → v.held ≡ Some h
      → HasStage (machine_shown f (ring n crew) s r) h.job (Busy w) × (h.cell ≡ h.job % n)
  holds_by n s r w v h true gone at is = absurd (none_not_some h (sym (r.each_spent w v at gone).nothing ∙ is))
  holds_by n s r w v h false live at is = let k = (r.each_seat w v at live).holds h is in ((k.0, k.2), k.1)

  word_at : (n : ℕ) (s : St J D) (r : Shows f (ring n crew) s) (c p : ℕ) → r.me.taken ≤ p → p < r.me.taken + n
      → p % n ≡ c → get_or s.words (c + 1) 0 ≡ cell_word p (get_elem? r.stages p)
  word_at n s r c p a b e = ap (λ (z : ℕ). get_or s.words (z + 1) 0) (sym e) ∙ (r.each_cell p a b).word

  free_word : (n : ℕ) (s : St J D) (r : Shows f (ring n crew) s) (c : ℕ) → c < n
      → (get_or s.words (c + 1) 0 ≡ 0) ↔ ((i : ℕ) → r.me.taken ≤ i → i < length r.stages → i % n ≢ c)
  free_word n s r c near = let w : length r.stages ≤ r.me.taken + n = r.within in (
    (λ e i a b is. let some_stage = at_below r.stages i b in
        let gone = no_stage i (get_elem? r.stages i) (sym (word_at n s r c i a (omega arith) is) ∙ e) in
        some-ne-none some_stage.0 (sym some_stage.1 ∙ gone)),
    (λ away. let at = spot n r.me.taken c r.some_cell near in word_at n s r c at.0 at.1 at.2 at.3 ∙ ap (cell_word at.0)
        (at_above r.stages at.0 (dite (dec_lt at.0 (length r.stages)) (λ l. absurd (away at.0 at.1 l at.3))
        (λ ge. omega arith)))),
  )

  free_home : (n : ℕ) (s : St J D) (r : Shows f (ring n crew) s) (c : ℕ) → r.me.stocked ≡ true → c < n
      → get_or s.words (c + 1) 0 ≡ 0 → get_elem? s.homes c ≡ some none
  free_home n s r c full near e = let at = spot n r.me.taken c r.some_cell near in let p : ℕ = at.0 in
      let gone = no_stage p (get_elem? r.stages p) (sym (word_at n s r c p at.1 at.2 at.3) ∙ e) in
      let lies : Lies f r.me s (place_in n p) none = subst (Lies f r.me s (place_in n p)) gone
      (r.each_cell p at.1 at.2).lies in
      ap (get_elem? s.homes) (sym at.3) ∙ (lies ∙ ap (λ (b : Bool). some (cond b none (some Empty))) full)

  pub shown : (n : ℕ) (s : St J D) (r : Shows f (ring n crew) s)
      → ShowsMachine f (ring n crew) s (machine_shown f (ring n crew) s r) r.me
  shown n s r = record {
    state = record {
      past = r.past;
      behind = r.behind;
      within = r.within;
      in_range = λ i w e. let by = (busy_by n s r i w e).3 in let b = at_length s.views w by.0 by.1 in
          let many = r.seats in let most = r.crew in omega arith;
      one_job = λ i j w e g. let x = busy_by n s r i w e in let y = busy_by n s r j w g in
          let one : x.3.0 ≡ y.3.0 = some-injective x.3.0 y.3.0 (sym x.3.1 ∙ y.3.1) in
          ap (λ (h : Held J). h.job) (inside (held_job (i % n) i x.0) (held_job (j % n) j y.0) (sym x.3.2
          ∙ (ap (λ (v : View J). v.held) one ∙ y.3.2)));
    };
    conductor = r.first;
    put_is = r.as_many;
    taken_is = refl;
    stopped_is = refl;
    stop_word = r.stop_is;
    free = free_word n s r;
    told = λ i st h. (cell_at n s r i st h.0 h.1).0;
    free_slot = λ full c near e. free_home n s r c full near e;
    ready_slot = λ i h. (cell_at n s r i Ready h.0 h.1).1;
    busy_slot = λ i w h. (cell_at n s r i (Busy w) h.0 h.1).1;
    holds = λ w v h at is. holds_by n s r w v h v.spent refl at is;
    done_slot = λ i h calm. let l = (cell_at n s r i Done h.0 h.1).1 in
        (l.0, l.1, l.2 ∙ ap (λ (b : Bool). some (cond b none (some (Made (f l.0))))) (not_hid r.me i calm));
    one_holder = λ w u v x h k at there is also same.
        let a = holds_by n s r w v h v.spent refl at is in let b = holds_by n s r u x k x.spent refl there also in
        one_owner w u (differ (get_elem? r.stages h.job) (Busy w) (Busy u) a.0.1 (ap (get_elem? r.stages) same
        ∙ b.0.1));
    taking = λ e. let done = r.taking_is e in let l = (cell_at n s r r.me.taken Done (le_refl r.me.taken) done).1 in (
      (le_refl r.me.taken, done),
      l.2 ∙ ap (λ (b : Bool). some (cond b none (some (Made (f l.0))))) (taking_hides r.me e),
    );
    finished = λ i e. r.finishes i ∙ ap finish_count e;
    unfinished = λ i ne. r.finishes i ∙ not_done (get_elem? r.stages i) ne;
    numbers = λ w v at live. (r.each_seat w v at live).numbered;
    seats = r.seats;
    most_seats = r.crew;
    spent = r.each_spent;
  }
