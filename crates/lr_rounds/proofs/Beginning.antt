-- Before the first round.
use Rattle.std.proofs.Common.{◌≡◌, ℕ, List, [], length, sym, ap, subst, arith}
use Rattle.lr_gate.specs.Seats.{view_of}
use Rattle.lr_gate.specs.declared.gate.Conductor.{Conductor}
use Rattle.lr_gate.specs.declared.gate.Gate.{Gate}
use Rattle.lr_gate.specs.declared.gate.WorkerSeat.{WorkerSeat}
use Rattle.lr_gate.specs.declared.view.View.{View}
use Rattle.lr_rounds.specs.WorkerPools.{PoolView, IsFreshRing}
use Rattle.lr_rounds.specs.JobSources.{SourceTerms, led, HasGivenNothing}
use Rattle.lr_rounds.specs.Rounds.{MayRound}

-- rounds may be made at a ring with nothing in it
pub may_begin : {L W J D Cause : Type 0} (terms : SourceTerms L J Cause) (gate : Gate W J D)
    (conductor : Conductor W J D) (seats : List (WorkerSeat W J D)) (work_count : ℕ) (pool : PoolView)
    → IsFreshRing gate conductor seats work_count pool → (now : L)
    → (start : L) × HasGivenNothing terms start now
    → MayRound terms pool.cells gate conductor now
may_begin {L} {W} {J} {D} terms gate conductor seats work_count pool fresh now ready =
    let no_jobs : (view_of conductor).jobs ≡ [] = ap (λ (v : View J). v.jobs) fresh.empty in
    let none_taken : (view_of conductor).taken ≡ 0 = ap (λ (v : View J). v.taken) fresh.empty in
    record {
      size = fresh.size;
      some = fresh.some;
      going = record {
        mine = fresh.conductor_is;
        running = ap (λ (v : View J). v.stopped) fresh.empty;
        ready = ready;
        led_on = λ start begins. subst (λ (kept : ℕ). terms.stands (led start (view_of conductor).jobs kept) now)
            (sym none_taken) (subst (λ (jobs : List J). terms.stands (led start jobs 0) now) (sym no_jobs) begins);
        waiting = omega (arith, none_taken, ap (λ (l : List J). length l) no_jobs);
        over = λ said. absurd cc;
      };
    }
