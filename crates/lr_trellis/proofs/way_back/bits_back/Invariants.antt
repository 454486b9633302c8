use Rattle.lr_trellis.specs.Words.{decisions}
use Rattle.lr_trellis.proofs.ReadBack.{BitsRead}
use Rattle.lr_trellis.proofs.way_back.bits_back.Given as goal

abbrev pub invariant-loop-i : goal.invariant-loop-i
invariant-loop-i l = BitsRead l.fn.line (decisions l.words) l.first l.fn.state l.i l.state l.out
