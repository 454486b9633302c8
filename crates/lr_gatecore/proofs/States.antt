-- The states of the machine.
use Rattle.std.proofs.Common.{◌≡◌, ℕ, ◌-◌, ◌<◌, ◌≤◌, ◌≢◌, List, [], ◌∷◌, ◌++◌, length, set, sym, refl, ap, ◌∙◌, subst}
use Rattle.std.proofs.Common.{arith, length-set, length-append, true≢false, Bool, true, false}
use mathlib.Core.Option.{some, none, some-ne-none, some-injective}
use mathlib.Core.Option as maybe
use mathlib.Core.Logic.{dite}
use native.Mathlib.Decide.{ℕ_discrete, dec_lt}
use lib.ListN.{get_elem?}
use Rattle.lr_gatecore.specs.declared.event.Event.{Event}
use Rattle.lr_gatecore.specs.declared.event.Event.TheVariants.{Put, Claim, Finish, Take, Stop}
use Rattle.lr_gatecore.specs.declared.ring_size.RingSize.{RingSize}
use Rattle.lr_gatecore.specs.declared.stage.Stage.{Stage}
use Rattle.lr_gatecore.specs.declared.stage.Stage.TheVariants.{Ready, Busy, Done}
use Rattle.lr_gatecore.specs.Machine.{Machine, empty_machine, HasStage, Moves, IsState}
use Rattle.lr_gatecore.proofs.Lists.{at_length, at_last, set_here, set_else, snoc_else}
use Rattle.lr_gatecore.proofs.Cells.{one_job}

pub empty_state : (size : RingSize) → IsState size empty_machine
empty_state size = record {
  past = λ i l. absurd (omega arith);
  behind = omega arith;
  within = omega arith;
  in_range = λ i w e. absurd (some-ne-none (Busy w) (sym e));
  one_job = λ i j w e f. absurd (some-ne-none (Busy w) (sym e));
}

is_busy : Stage → Bool
is_busy (Busy w) = true
is_busy Ready = false
is_busy Done = false

busy_only : (o : maybe.Option Stage) (w : ℕ) (a : Stage) → is_busy a ≡ false → o ≡ some a → o ≡ some (Busy w) → ⊥
unfolding is_busy
busy_only o w a idle x y = true≢false (ap is_busy (some-injective (Busy w) a (sym y ∙ x)) ∙ idle)

worker_of : Stage → ℕ
worker_of (Busy w) = w
worker_of Ready = 0
worker_of Done = 0

same_worker : (o : maybe.Option Stage) (v w : ℕ) → o ≡ some (Busy v) → o ≡ some (Busy w) → v ≡ w
unfolding worker_of
same_worker o v w x y = ap worker_of (some-injective (Busy v) (Busy w) (sym x ∙ y))

-- what is busy after a stage has changed to one that isn't, was busy before
still_busy : (l : List Stage) (p i w : ℕ) (a b : Stage) → get_elem? l p ≡ some a → is_busy b ≡ false
    → get_elem? (set l p b) i ≡ some (Busy w) → get_elem? l i ≡ some (Busy w)
unfolding is_busy
still_busy l p i w a b at idle e = dite (ℕ_discrete i p)
    (λ x. absurd (busy_only (some b) w b idle refl (sym (set_here l p b (at_length l p a at))
    ∙ (ap (get_elem? (set l p b)) (sym x) ∙ e))))
    (λ ne. sym (set_else l p i b ne) ∙ e)

put_busy : (l : List Stage) (i w : ℕ) → get_elem? (l ++ Ready ∷ []) i ≡ some (Busy w) → get_elem? l i ≡ some (Busy w)
unfolding is_busy
put_busy l i w e = dite (ℕ_discrete i (length l))
    (λ x. absurd (busy_only (some Ready) w Ready refl refl (sym (at_last l Ready (length l) refl)
    ∙ (ap (get_elem? (l ++ Ready ∷ [])) (sym x) ∙ e))))
    (λ ne. sym (snoc_else l Ready i ne) ∙ e)

-- what is busy after a claim is the job claimed, or was busy before
data Claimed (l : List Stage) (p v i w : ℕ) : Type 0 where
  this : i ≡ p → w ≡ v → Claimed l p v i w
  other : i ≢ p → get_elem? l i ≡ some (Busy w) → Claimed l p v i w

claimed : (l : List Stage) (p v i w : ℕ) → get_elem? l p ≡ some Ready
    → get_elem? (set l p (Busy v)) i ≡ some (Busy w) → Claimed l p v i w
claimed l p v i w at e = dite (ℕ_discrete i p)
    (λ x. this x (same_worker (some (Busy v)) w v (sym (set_here l p (Busy v) (at_length l p Ready at))
    ∙ (ap (get_elem? (set l p (Busy v))) (sym x) ∙ e)) refl))
    (λ ne. other ne (sym (set_else l p i (Busy v) ne) ∙ e))

module _ (size : RingSize) where
  in_window : (m : Machine) (j w : ℕ) → IsState size m → get_elem? m.stages j ≡ some (Busy w) → m.taken ≤ j
  unfolding is_busy
  in_window m j w s e =
      dite (dec_lt j m.taken) (λ l. absurd (busy_only (get_elem? m.stages j) w Done refl (s.past j l) e))
      (λ ge. omega arith)

  claim_range : (m : Machine) (p v i w : ℕ) → IsState size m → v < size.workers → Claimed m.stages p v i w
      → w < size.workers
  claim_range m p v i w s low (this x y) = subst (λ z. z < size.workers) (sym y) low
  claim_range m p v i w s low (other ne e) = s.in_range i w e

  claim_one : (m : Machine) (p v i j w : ℕ) → IsState size m → ((k : ℕ) → ¬ HasStage m k (Busy v))
      → Claimed m.stages p v i w → Claimed m.stages p v j w → i ≡ j
  claim_one m p v i j w s free (this x y) (this z u) = x ∙ sym z
  claim_one m p v i j w s free (this x y) (other ne e) =
      absurd (free j (in_window m j w s e, e ∙ ap (λ k. some (Busy k)) y))
  claim_one m p v i j w s free (other ne e) (this z u) =
      absurd (free i (in_window m i w s e, e ∙ ap (λ k. some (Busy k)) u))
  claim_one m p v i j w s free (other ne e) (other nf f) = s.one_job i j w e f

  pub next_state : (m : Machine) (event : Event) (job : ℕ) (n : Machine) → IsState size m
      → Moves size m event job n → IsState size n
  unfolding is_busy
  next_state m Put job n s mv = subst (IsState size) (sym mv.3) record {
    past = λ i l. let e = s.past i l in snoc_else m.stages Ready i (λ x. let k = at_length m.stages i Done e in
        omega arith) ∙ e;
    behind = let b = s.behind in let k = length-append m.stages (Ready ∷ []) in omega arith;
    within = let room : length m.stages - m.taken < size.cells = mv.0 in let b = s.behind in
        let k = length-append m.stages (Ready ∷ []) in omega arith;
    in_range = λ i w e. s.in_range i w (put_busy m.stages i w e);
    one_job = λ i j w e f. s.one_job i j w (put_busy m.stages i w e) (put_busy m.stages j w f);
  }
  next_state m (Claim v c) job n s mv = let l = length-set m.stages job (Busy v) in
      subst (IsState size) (sym mv.5) record {
        past = λ i b. set_else m.stages job i (Busy v) (λ x. let le : m.taken ≤ job = mv.3.0 in omega arith)
            ∙ s.past i b;
        behind = let b = s.behind in omega arith;
        within = let b = s.within in omega arith;
        in_range = λ i w e. claim_range m job v i w s mv.0 (claimed m.stages job v i w mv.3.1 e);
        one_job = λ i j w e f. claim_one m job v i j w s mv.2 (claimed m.stages job v i w mv.3.1 e)
            (claimed m.stages job v j w mv.3.1 f);
      }
  next_state m (Finish v) job n s mv = let l = length-set m.stages job Done in
      subst (IsState size) (sym mv.1) record {
        past = λ i b. set_else m.stages job i Done (λ x. let le : m.taken ≤ job = mv.0.0 in omega arith) ∙ s.past i b;
        behind = let b = s.behind in omega arith;
        within = let b = s.within in omega arith;
        in_range = λ i w e. s.in_range i w (still_busy m.stages job i w (Busy v) Done mv.0.1 refl e);
        one_job = λ i j w e f. s.one_job i j w (still_busy m.stages job i w (Busy v) Done mv.0.1 refl e)
            (still_busy m.stages job j w (Busy v) Done mv.0.1 refl f);
      }
  next_state m Take job n s mv = let is : get_elem? m.stages m.taken ≡ some Done =
      ap (get_elem? m.stages) (sym mv.1) ∙ mv.0.1 in subst (IsState size) (sym mv.2) record {
        past = λ i l. dite (ℕ_discrete i m.taken) (λ e. ap (get_elem? m.stages) e ∙ is) (λ ne. s.past i (omega arith));
        behind = let k = at_length m.stages m.taken Done is in omega arith;
        within = let b = s.within in omega arith;
        in_range = s.in_range;
        one_job = s.one_job;
      }
  next_state m Stop job n s mv = subst (IsState size) (sym mv.2) record {
    past = s.past;
    behind =
        s.behind;
    within = s.within;
    in_range = s.in_range;
    one_job = s.one_job;
  }

  pub one_move : (m : Machine) (event : Event) (i j : ℕ) (n p : Machine) → IsState size m
      → Moves size m event i n → Moves size m event j p → (i ≡ j) × (n ≡ p)
  one_move m Put i j n p s a b = (a.2 ∙ sym b.2, a.3 ∙ sym b.3)
  one_move m (Claim v c) i j n p s a b = let x = at_length m.stages i Ready a.3.1 in
      let y = at_length m.stages j Ready b.3.1 in let w = s.within in let l : m.taken ≤ i = a.3.0 in
      let k : m.taken ≤ j = b.3.0 in
      let same : i ≡ j = one_job i j size.cells (omega arith) (omega arith) (a.4 ∙ sym b.4) in
      (same, a.5 ∙ (ap (λ z. record m { stages = set m.stages z (Busy v) }) same ∙ sym b.5))
  one_move m (Finish v) i j n p s a b = let same : i ≡ j = s.one_job i j v a.0.1 b.0.1 in
      (same, a.1 ∙ (ap (λ z. record m { stages = set m.stages z Done }) same ∙ sym b.1))
  one_move m Take i j n p s a b = (a.1 ∙ sym b.1, a.2 ∙ sym b.2)
  one_move m Stop i j n p s a b = (a.1 ∙ sym b.1, a.2 ∙ sym b.2)
