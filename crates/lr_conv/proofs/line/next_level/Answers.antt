use Rattle.std.proofs.Common.{rules, arith}
use Rattle.lr_conv.proofs.line.next_level.Goals as goal

pub returns-then-line : goal.returns-then-line
returns-then-line c = search (rules, arith)
