use Rattle.std.proofs.Common.{arith}
use Rattle.lr_gate.proofs.Takes.{splits_go}
use Rattle.lr_gate.proofs.gate.Conductor.split.Goals as goal

pub split_seat-seat-requires : goal.split_seat-seat-requires
split_seat-seat-requires g c = let size = c.args.gate.now.sized in (
  c.requires.mine.table,
  omega (arith, size.words),
  splits_go _ _ _ _ _ c.requires.mine.id
      (omega (arith, size.workers_are, c.requires.number.0, c.requires.number.1)),
)
