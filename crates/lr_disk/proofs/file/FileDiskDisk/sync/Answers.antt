use Rattle.std.proofs.Common.{arith, rules}
use Rattle.lr_disk.proofs.file.FileDiskDisk.sync.Goals as goal

pub returns-clause-durable : goal.returns-clause-durable
returns-clause-durable g c = search (rules, arith)

pub returns-clause-errors : goal.returns-clause-errors
returns-clause-errors g c = search (rules, arith)
