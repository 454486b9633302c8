-- A job more that is finished leaves one job less: for loops that take and help on a ring with no workers.
use Rattle.std.proofs.Common.{◌≡◌, ◌≢◌, ℕ, zero, suc, ◌+◌, ◌<◌, ◌≤◌, ◌==◌, cond, Bool, true, List, [], ◌∷◌, ◌++◌}
use Rattle.std.proofs.Common.{length, sym, refl, ap, ◌∙◌, subst, arith, eq-eqb, ne_eqb, ⊎_elim}
use mathlib.Core.Logic.{dite}
use native.Mathlib.Decide.{ℕ_discrete}
use Rattle.lr_gate.specs.declared.view.View.{View}
use Rattle.lr_gate.specs.Shows.{count_of}
use Rattle.std.specs.Prelude.{IsTrue, ◌↔◌}
use Rattle.lr_gate.specs.Calls.{HasFinished}
use Rattle.lr_gate.specs.Seats.{jobs_put, TakesNothing, Helps, SomeUnfinished, OldestWaits}
use Rattle.lr_gate.proofs.Lists.{count_end}
use Rattle.lr_gatecore.proofs.Lists.{at_length}
use Rattle.lr_gate.specs.Left.{unfinished_from, unfinished_count}

abbrev tick : Bool → ℕ
tick b = cond b 1 0

module _ {J : Type 0} where
  same_mark : (v w : View J) (p i : ℕ) → w.finished ≡ v.finished ++ p ∷ [] → i ≢ p
      → count_of i w.finished ≡ count_of i v.finished
  same_mark v w p i e ne = let t : count_of i w.finished ≡ count_of i v.finished + cond (i == p) 1 0 =
      ap (count_of i) e ∙ count_end i v.finished p in
      let z : tick (i == p) ≡ 0 = ap tick (ne_eqb i p ne) in omega (arith, t, z)

  -- after the job nothing changes
  behind : (v w : View J) (p i n : ℕ) → w.finished ≡ v.finished ++ p ∷ [] → p < i
      → unfinished_from w i n ≡ unfinished_from v i n
  behind v w p i zero e l = refl
  behind v w p i (suc n) e l = let t = same_mark v w p i e (λ x. omega arith) in
      let r = behind v w p (i + 1) n e (omega arith) in
      let a : tick (count_of i w.finished == 0) ≡ tick (count_of i v.finished == 0) =
      ap (λ (k : ℕ). tick (k == 0)) t in omega (arith, a, r)

  fewer_from : (v w : View J) (p i n : ℕ) → w.finished ≡ v.finished ++ p ∷ [] → count_of p v.finished ≡ 0 → i ≤ p
      → p < i + n → unfinished_from w i n + 1 ≡ unfinished_from v i n
  fewer_from v w p i zero e fresh a b = absurd (omega arith)
  fewer_from v w p i (suc n) e fresh a b = dite (ℕ_discrete i p)
      (λ x. let t : count_of p w.finished ≡ count_of p v.finished + cond (p == p) 1 0 =
      ap (count_of p) e ∙ count_end p v.finished p in
      let one : tick (p == p) ≡ 1 = ap tick (eq-eqb p p refl) in
      let after : count_of i w.finished ≡ 1 = ap (λ (k : ℕ). count_of k w.finished) x
      ∙ (let g : count_of p w.finished ≡ 1 = omega (arith, t, one, fresh) in g) in
      let before : count_of i v.finished ≡ 0 = ap (λ (k : ℕ). count_of k v.finished) x ∙ fresh in
      let c : tick (count_of i w.finished == 0) ≡ 0 = ap (λ (k : ℕ). tick (k == 0)) after in
      let d : tick (count_of i v.finished == 0) ≡ 1 = ap (λ (k : ℕ). tick (k == 0)) before in
      let r = behind v w p (i + 1) n e (omega arith) in omega (arith, c, d, r))
      (λ ne. let t = same_mark v w p i e ne in let r = fewer_from v w p (i + 1) n e fresh (omega arith) (omega arith) in
      let c : tick (count_of i w.finished == 0) ≡ tick (count_of i v.finished == 0) =
      ap (λ (k : ℕ). tick (k == 0)) t in omega (arith, c, r))

  pub fewer : (v w : View J) (p : ℕ) → w.jobs ≡ v.jobs → w.finished ≡ v.finished ++ p ∷ []
      → count_of p v.finished ≡ 0 → p < length v.jobs → unfinished_count w + 1 ≡ unfinished_count v
  fewer v w p jobs e fresh b = ap (λ xs. unfinished_from w 0 (length xs) + 1) jobs
      ∙ fewer_from v w p 0 (length v.jobs) e fresh (omega arith) (omega arith)

  same_from : (v w : View J) (i n : ℕ) → w.finished ≡ v.finished → unfinished_from w i n ≡ unfinished_from v i n
  same_from v w i zero e = refl
  same_from v w i (suc n) e =
      let a : tick (count_of i w.finished == 0) ≡ tick (count_of i v.finished == 0) =
      ap (λ (l : List ℕ). tick (count_of i l == 0)) e in
      let r = same_from v w (i + 1) n e in omega (arith, a, r)

  pub same_left : (v w : View J) → w.jobs ≡ v.jobs → w.finished ≡ v.finished → unfinished_count w ≡ unfinished_count v
  same_left v w jobs e =
      ap (λ xs. unfinished_from w 0 (length xs)) jobs ∙ same_from v w 0 (length v.jobs) e

  -- where the oldest job can't be taken yet, a round of help leaves one job less
  pub help_leaves_fewer : (n : ℕ) (v mid w : View J) (b : Bool) → TakesNothing n v mid → OldestWaits v
      → v.taken < jobs_put v → IsTrue b ↔ SomeUnfinished mid → Helps n mid w b
      → unfinished_count w + 1 ≡ unfinished_count v
  help_leaves_fewer n v mid w b none waits some_left iff helps =
      let same : (mid.jobs ≡ v.jobs)
      × (mid.finished ≡ v.finished) =
      ⊎_elim (λ x. (ap (λ (u : View J). u.jobs) x.1, ap (λ (u : View J). u.finished) x.1))
      (λ x. (ap (λ (u : View J). u.jobs) x.2, ap (λ (u : View J). u.finished) x.2)) none in
      let open_job : ¬ HasFinished v v.taken = ⊎_elim
      (λ (e : jobs_put v ≡ v.taken). absurd (omega (arith, e, some_left))) (λ u. u) waits in
      let unfinished : SomeUnfinished mid = (
        v.taken,
        subst (λ xs. v.taken < length xs) (sym same.0) some_left,
        λ fin. open_job (subst (λ l. count_of v.taken l ≢ 0) same.1 fin),
      ) in
      let did : Helps n mid w true = subst (Helps n mid w) (iff.1 unfinished) helps in
      let fresh : count_of did.0 mid.finished ≡ 0 = dite (ℕ_discrete (count_of did.0 mid.finished) 0) (λ e. e)
      (λ ne. absurd (did.4 ne)) in
      fewer mid w did.0 (ap (λ (u : View J). u.jobs) did.2) (ap (λ (u : View J). u.finished) did.2) fresh
      (at_length mid.jobs did.0 did.5.0 did.5.2) ∙ same_left v mid same.0 same.1
