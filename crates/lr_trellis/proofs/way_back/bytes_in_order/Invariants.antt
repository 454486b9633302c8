use Rattle.lr_trellis.specs.Words.{decisions}
use Rattle.lr_trellis.proofs.ReadBack.{StillRead}
use Rattle.lr_trellis.proofs.way_back.bytes_in_order.Given as goal

abbrev pub invariant-loop-k : goal.invariant-loop-k
invariant-loop-k l = StillRead l.fn.line (decisions l.words) l.first l.fn.state l.k l.state l.out
