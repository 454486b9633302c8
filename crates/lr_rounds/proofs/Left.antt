-- What is left to do, and what leaves less.
use Rattle.std.proofs.Common.{◌≡◌, ◌≤◌, ◌+◌, ◌==◌, ℕ, zero, suc, Bool, true, false, cond, List, [], ◌∷◌, ◌++◌, length}
use Rattle.std.proofs.Common.{length-append, ap, arith, ⊎_elim}
use mathlib.Core.Logic.{dite}
use native.Mathlib.Decide.{ℕ_discrete}
use Rattle.lr_gatecore.proofs.Lists.{at_length}
use Rattle.lr_gate.proofs.Fewer.{fewer}
use Rattle.lr_gate.specs.Left.{unfinished_from, unfinished_count}
use Rattle.lr_gate.specs.Seats.{TakesNothing, Helps}
use Rattle.lr_gate.specs.Shows.{count_of}
use Rattle.lr_gate.specs.declared.view.View.{View}
use Rattle.lr_rounds.specs.Rounds.{SameJobs}

-- ---- calls that put no job and take none

module _ {J : Type 0} where
  pub nothing_taken : (n : ℕ) (v w : View J) → TakesNothing n v w → SameJobs v w × (w.finished ≡ v.finished)
  nothing_taken n v w none = ⊎_elim (λ x. (
    record {
      jobs = ap (λ (u : View J). u.jobs) x.1;
      taken = ap (λ (u : View J). u.taken) x.1;
      stopped = ap (λ (u : View J). u.stopped) x.1;
    },
    ap (λ (u : View J). u.finished) x.1,
  )) (λ x. (
    record {
      jobs = ap (λ (u : View J). u.jobs) x.2;
      taken = ap (λ (u : View J). u.taken) x.2;
      stopped = ap (λ (u : View J). u.stopped) x.2;
    },
    ap (λ (u : View J). u.finished) x.2,
  )) none

  pub helped : (n : ℕ) (v w : View J) (b : Bool) → Helps n v w b → SameJobs v w
  helped n v w true did = record {
    jobs = ap (λ (u : View J). u.jobs) did.2;
    taken = ap (λ (u : View J). u.taken) did.2;
    stopped = ap (λ (u : View J). u.stopped) did.2;
  }
  helped n v w false none = record {
    jobs = ap (λ (u : View J). u.jobs) none.1;
    taken = ap (λ (u : View J). u.taken) none.1;
    stopped = ap (λ (u : View J). u.stopped) none.1;
  }

-- ---- how many jobs aren't finished

abbrev tick : Bool → ℕ
tick b = cond b 1 0

tick_few : (b : Bool) → tick b ≤ 1
tick_few true = omega arith
tick_few false = omega arith

module _ {J : Type 0} (v w : View J) (finished : w.finished ≡ v.finished) where
  -- one job more
  one_longer : (i n : ℕ) → unfinished_from w i (suc n) ≤ unfinished_from v i n + 1
  one_longer i zero = let few = tick_few (count_of i w.finished == 0) in omega (arith, few)
  one_longer i (suc n) = let more = one_longer (i + 1) n in
      let same : tick (count_of i w.finished == 0) ≡ tick (count_of i v.finished == 0) =
      ap (λ (l : List ℕ). tick (count_of i l == 0)) finished in omega (arith, more, same)

  pub unfinished_more : (job : J) → w.jobs ≡ v.jobs ++ job ∷ [] → unfinished_count w ≤ unfinished_count v + 1
  unfinished_more job jobs = let more = one_longer 0 (length v.jobs) in
      let same : unfinished_count w ≡ unfinished_from w 0 (suc (length v.jobs)) =
      ap (unfinished_from w 0) (let e : length w.jobs ≡ suc (length v.jobs) =
      omega (arith, ap (λ (l : List J). length l) jobs, length-append v.jobs (job ∷ [])) in e) in
      omega (arith, more, same)

-- a job was done
pub unfinished_less : {J : Type 0} (n : ℕ) (v w : View J) → Helps n v w true
    → unfinished_count w + 1 ≡ unfinished_count v
unfinished_less {J} n v w did =
    let fresh : count_of did.0 v.finished ≡ 0 = dite (ℕ_discrete (count_of did.0 v.finished) 0) (λ e. e)
    (λ ne. absurd (did.4 ne)) in
    fewer v w did.0 (ap (λ (u : View J). u.jobs) did.2) (ap (λ (u : View J). u.finished) did.2) fresh
    (at_length v.jobs did.0 did.5.0 did.5.2)
