use Rattle.std.proofs.Common.{◌≡◌, ◌≤◌, All, vec_len, vec_capacity}
use Rattle.lr_gate.specs.Seats.{IsConductorWith, IsSeatOf, IsNewSeat, opening_view}
use Rattle.lr_gate.proofs.build.seat_workers.Given as goal

abbrev pub invariant-loop-number : goal.invariant-loop-number
invariant-loop-number g l = record {
  mine : IsConductorWith l.gate l.number l.conductor;
  seats : All (IsSeatOf l.gate) l.seats.items;
  new_seats : All IsNewSeat l.seats.items;
  view : l.conductor.seat.me.0 ≡ opening_view l.number;
  many : vec_len l.seats ≡ l.number;
  room : l.number-end ≤ vec_capacity l.seats;
  workers : l.number-end ≡ l.gate.workers;
}
