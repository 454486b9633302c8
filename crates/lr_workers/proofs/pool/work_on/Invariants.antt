use Rattle.lr_gate.specs.Seats.{IsSeatIn, table_of}
use Rattle.lr_workers.proofs.pool.work_on.Given as goal

abbrev pub invariant-loop : goal.invariant-loop
invariant-loop g l = (goal.iterator-loop g).can_next l.iterator' × (goal.iterator-loop g).is_finite l.iterator'
    × IsSeatIn (table_of l.gate) l.seat
