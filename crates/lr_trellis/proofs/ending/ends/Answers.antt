use Rattle.std.proofs.Common.{rules, arith}
use Rattle.lr_trellis.proofs.ending.ends.Goals as goal

pub returns-else-line-clause-low : goal.returns-else-line-clause-low
returns-else-line-clause-low c = search (rules, arith)
