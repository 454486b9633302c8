use Rattle.std.proofs.Common.{◌≡◌}
use Rattle.lr_gate.specs.Calls.{MayClaim}
use Rattle.lr_gate.proofs.Rounds.{Gone}
use Rattle.lr_gate.proofs.round.go_between.Given as goal

abbrev pub invariant-loop-cell : goal.invariant-loop-cell
invariant-loop-cell g l =
    MayClaim l.gate.table.shared.table_id l.seat l.number × (l.seat.table_id ≡ l.fn.seat.table_id)
    × (l.seat.id ≡ l.fn.seat.id) × Gone l.gate.cells l.fn.seat.me l.seat.me l.fn.cells.from l.cell
