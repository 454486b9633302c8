use Rattle.std.proofs.Common.{arith, rules}
use Rattle.lr_disk.proofs.file.FileDiskDisk.length.Goals as goal

pub returns-clause-size : goal.returns-clause-size
returns-clause-size g c = search (rules, arith)

pub returns-clause-errors : goal.returns-clause-errors
returns-clause-errors g c = search (rules, arith)
