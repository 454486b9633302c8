use Rattle.std.proofs.Common.{arith}
use Rattle.lr_gate.proofs.Takes.{stops_go}
use Rattle.lr_gate.proofs.gate.Conductor.stop.Goals as goal

pub store-requires : goal.store-requires
store-requires g c = let size = c.args.gate.now.sized in
    (c.requires.mine.table, omega (arith, size.words), stops_go _ _ _ _ _ _ c.requires.mine.id)
