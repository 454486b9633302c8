use Rattle.std.proofs.Common.{arith, rules}
use Rattle.lr_headers.proofs.stamp.day.Goals as goal

pub returns : goal.returns
returns c = search (rules, arith)
