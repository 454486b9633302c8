use Rattle.std.proofs.Common.{◌≡◌}
use Rattle.lr_gate.specs.Seats.{IsConductorOf, view_of}
use Rattle.lr_trials_threads.proofs.rendezvous.result_of.Given as goal

abbrev pub invariant-loop : goal.invariant-loop
invariant-loop g l =
    (goal.iterator-loop g).can_next l.iterator' × (goal.iterator-loop g).is_finite l.iterator'
    × IsConductorOf l.gate l.conductor × ((view_of l.conductor).stopped ≡ (view_of l.fn.conductor).stopped)
