use Rattle.std.proofs.Common.{arith, rules}
use Rattle.lr_disk.proofs.stop.Left.sync.Goals as goal

pub returns-clause-shows : goal.returns-clause-shows
returns-clause-shows c = search (rules, arith)
