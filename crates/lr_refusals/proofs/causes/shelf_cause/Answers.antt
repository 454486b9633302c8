use Rattle.std.proofs.Common.{rules, arith}
use Rattle.lr_refusals.proofs.causes.shelf_cause.Goals as goal

pub returns-in-Disk : goal.returns-in-Disk
returns-in-Disk c = search (rules, arith)
