use Rattle.std.proofs.Common.{rules, arith}
use Rattle.lr_cmd_shelf.proofs.range.Range.between.Goals as goal

pub returns-else-from-to-clause-is : goal.returns-else-from-to-clause-is
returns-else-from-to-clause-is c = search (rules, arith)
