use Rattle.std.proofs.Common.{rules, arith}
use Rattle.lr_causes.proofs.line.capacity_line.Goals as goal

pub returns : goal.returns
returns c = search (rules, arith)
