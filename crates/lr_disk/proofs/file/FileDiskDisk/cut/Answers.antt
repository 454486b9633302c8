use Rattle.std.proofs.Common.{arith, rules}
use Rattle.lr_disk.proofs.file.FileDiskDisk.cut.Goals as goal

pub returns-clause-errors : goal.returns-clause-errors
returns-clause-errors g c = search (rules, arith)
