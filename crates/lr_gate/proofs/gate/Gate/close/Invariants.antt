use Rattle.std.proofs.Common.{◌≡◌, All, vec_len}
use Rattle.lr_gate.specs.Calls.{IsWorker}
use Rattle.lr_gate.specs.Seats.{IsConductorOf}
use Rattle.lr_gate.proofs.gate.Gate.close.Given as goal

abbrev pub invariant-loop-seat : goal.invariant-loop-seat
invariant-loop-seat g l =
    IsConductorOf l.self l.conductor × All (λ s. IsWorker l.self.table.shared.table_id s.seat s.number) l.seats.items
    × (l.conductor.put ≡ l.fn.conductor.put) × (l.conductor.taken ≡ l.fn.conductor.taken)

abbrev pub decreases-loop-seat : goal.decreases-loop-seat
decreases-loop-seat g l = vec_len l.seats
