use Rattle.std.proofs.Common.{arith}
use Rattle.lr_rs.proofs.syndromes.syndromes_of.Goals as goal

pub returns : goal.returns
returns c j h = c.loop-j.invariant j (omega arith)
