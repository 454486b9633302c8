-- How far a round over the cells has come.
use Rattle.std.proofs.Common.{◌≡◌, ℕ, ◌+◌, ◌%◌, ◌<◌, ◌≤◌, Bool, true, false, List, [], ◌∷◌, ◌++◌, length, sym, refl}
use Rattle.std.proofs.Common.{ap, ◌∙◌, subst, arith, mod-lt, true≢false}
use Rattle.std.specs.Prelude.{IsTrue, ◌↔◌}
use mathlib.Core.Logic.{dite}
use native.Mathlib.Decide.{ℕ_discrete, dec_le}
use Rattle.lr_gate.specs.declared.round.CellRange.{CellRange}
use Rattle.lr_gate.specs.declared.view.Read.{Read}
use Rattle.lr_gate.specs.declared.view.View.{View}
use Rattle.lr_gate.specs.Steps.{SeatState}
use Rattle.lr_gate.specs.Reads.{IsPassedOver}
use Rattle.lr_gate.specs.declared.gate.Turn.TheVariants.{Did, Nothing}
use Rattle.lr_gate.specs.Seats.{Turns, SomeUnfinished}
use Rattle.lr_gate.specs.Calls.{with_reads, IsAlone, HasFinished, Works, Visits, GoesBetween, GoesRound}
use Rattle.lr_gatecore.proofs.Lists.{at_length}
use Rattle.lr_gate.proofs.MoreReads.{more_reads, more_work, passed_longer, passed_behind, claimed_behind}

abbrev range : ℕ → ℕ → CellRange
range from to = record { from = from; to = to }

module _ {J D : Type 0} (n : ℕ) where
  -- all cells from one up to another were passed over, and the seat has only read
  pub record Gone (old now : SeatState J D) (from cell : ℕ) : Type 0 where
    pub reads : List Read
    pub now_is : now ≡ (with_reads old.0 reads, old.1)
    pub passed : (c : ℕ) → from ≤ c → c < cell → IsPassedOver reads c
    pub window : IsAlone old.0 → (p : ℕ) → old.0.taken ≤ p → p < length old.0.jobs → from ≤ p % n → p % n < cell
        → HasFinished old.0 p
    pub past : from < cell → IsAlone old.0 → (p : ℕ) → p < old.0.taken → HasFinished old.0 p

  pub gone_more : (old now next : SeatState J D) (from cell : ℕ) → Gone old now from cell
      → Visits n cell now next false → Gone old next from (cell + 1)
  gone_more old now next from cell g v' =
      let v : Visits n cell (with_reads old.0 g.reads, old.1) next false = subst (λ (m : SeatState J D).
      Visits n cell m next false) g.now_is v' in record {
        reads = g.reads ++ v.0;
        now_is = v.1 ∙ ap (λ (x : View J). (x, old.1)) (more_reads old.0 g.reads v.0);
        passed = λ c f l. dite (ℕ_discrete c cell) (λ e. subst (IsPassedOver (g.reads ++ v.0)) (sym e)
            (passed_behind g.reads v.0 cell v.2)) (λ ne. passed_longer g.reads v.0 c (g.passed c f (omega arith)));
        window = λ one p a b f l. dite (ℕ_discrete (p % n) cell) (λ e. (v.3 one).0 p a b e)
            (λ ne. g.window one p a b f (omega arith));
        past = λ l one p a. (v.3 one).1 p a;
      }

  pub gone_works : (old now next : SeatState J D) (from cell : ℕ) → Gone old now from cell → Works n now next
      → Works n old next
  gone_works old now next from cell g w' =
      let w : Works n (with_reads old.0 g.reads, old.1) next = subst (λ (m : SeatState J D).
      Works n m next) g.now_is w' in (
        w.0,
        g.reads ++ w.1,
        w.2 ∙ ap (λ (x : View J). (x, old.1)) (more_work old.0 g.reads w.1 w.0),
        claimed_behind g.reads w.1 n w.0 w.3,
        w.4,
        w.5,
      )

  -- cells that were all passed over
  pub gone_between : (old now : SeatState J D) (from to : ℕ) → Gone old now from to
      → GoesBetween n (range from to) old now false
  gone_between old now from to g = (g.reads, g.now_is, g.passed, λ one. (g.window one, λ some. g.past some one))

  passed_gone : (old now : SeatState J D) (from to : ℕ) → GoesBetween n (range from to) old now false
      → Gone old now from to
  passed_gone old now from to r = record {
    reads = r.0;
    now_is = r.1;
    passed = r.2;
    window = λ one. (r.3 one).0;
    past = λ some one. (r.3 one).1 some;
  }

  -- the cells from the start on, and then those before it, are all cells
  pub goes_on : (old mid next : SeatState J D) (start : ℕ) (b : Bool) → start < n
      → GoesBetween n (range start n) old mid false → GoesBetween n (range 0 start) mid next b → GoesRound n old next b
  goes_on old mid next start true inside first second =
      gone_works old mid next start n (passed_gone old mid start n first) second
  goes_on old mid next start false inside first second' =
      let second : GoesBetween n (range 0 start) (with_reads old.0 first.0, old.1) next false =
      subst (λ (m : SeatState J D). GoesBetween n (range 0 start) m next false) first.1 second' in (
        first.0 ++ second.0,
        second.1 ∙ ap (λ (x : View J). (x, old.1)) (more_reads old.0 first.0 second.0),
        λ c l. dite (dec_le start c) (λ later. passed_longer first.0 second.0 c (first.2 c later l))
            (λ front. passed_behind first.0 second.0 c (second.2 c (omega arith) (omega arith))),
        λ one p below. dite (dec_le old.0.taken p)
            (λ waits. dite (dec_le start (p % n))
            (λ later. (first.3 one).0 p waits below later (mod-lt p (omega arith)))
            (λ front. (second.3 one).0 p waits below (omega arith) (omega arith)))
            (λ was. (first.3 one).1 inside p (omega arith)),
      )

  -- a round after the load of the stop word
  began : (old now : SeatState J D) (k : Read) → now ≡ (with_reads old.0 (k ∷ []), old.1) → Gone old now 0 0
  began old now k e = record {
    reads = k ∷ [];
    now_is = e;
    passed = λ c f l. absurd (omega arith);
    window = λ one p a b f l. absurd (omega arith);
    past = λ l. absurd (omega arith);
  }

  pub turn_works : (old now next : SeatState J D) (k : Read) → now ≡ (with_reads old.0 (k ∷ []), old.1)
      → Works n now next → Turns n old.0 next.0 Did
  turn_works old now next k e w' = let w = gone_works old now next 0 0 (began old now k e) w' in
      (w.0, w.1, ap (λ (m : SeatState J D). m.0) w.2, w.3, λ fin. fin w.4)

  pub turn_reads : (old now next : SeatState J D) (k : Read) → now ≡ (with_reads old.0 (k ∷ []), old.1)
      → GoesRound n now next false → Turns n old.0 next.0 Nothing
  turn_reads old now next k e r' =
      let r : GoesRound n (with_reads old.0 (k ∷ []), old.1) next false = subst (λ (m : SeatState J D).
      GoesRound n m next false) e r' in (
        k ∷ r.0,
        ap (λ (m : SeatState J D). m.0) r.1 ∙ more_reads old.0 (k ∷ []) r.0,
        λ c l. passed_behind
            (k ∷ []) r.0 c (r.2 c l),
      )

  -- on one seat a round does a job exactly where one is left
  pub alone_helps : (old next : SeatState J D) (b : Bool) → old.0.split_off ≡ 0 → old.0.number ≡ 0
      → GoesRound n old next b → IsTrue b ↔ SomeUnfinished old.0
  alone_helps old next true one nought w = let own = w.5 nought in
      (λ _. (w.0, at_length old.0.jobs w.0 own.0 own.2, λ fin. fin w.4), λ _. refl)
  alone_helps old next false one nought r =
      (λ e. absurd (true≢false (sym e)), λ u. absurd (u.2 (r.3 (one, nought) u.0 u.1)))
