use Rattle.std.proofs.Common.{◌≡◌}
use Rattle.lr_gate.specs.Seats.{IsConductorOf, view_of}
use Rattle.lr_gate.specs.Left.{unfinished_count}
use Rattle.lr_trials_threads.proofs.draining.next_result.Given as goal

abbrev pub invariant-loop-done : goal.invariant-loop-done
invariant-loop-done g l =
    IsConductorOf l.gate l.conductor × ((view_of l.conductor).jobs ≡ (view_of l.fn.conductor).jobs)
    × ((view_of l.conductor).taken ≡ (view_of l.fn.conductor).taken)
    × ((view_of l.conductor).stopped ≡ (view_of l.fn.conductor).stopped)

abbrev pub decreases-loop-done : goal.decreases-loop-done
decreases-loop-done g l = unfinished_count (view_of l.conductor)
