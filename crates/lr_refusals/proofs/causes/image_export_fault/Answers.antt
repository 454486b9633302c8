use Rattle.std.proofs.Common.{rules, arith}
use Rattle.lr_refusals.proofs.causes.image_export_fault.Goals as goal

pub returns-in-NoMemory : goal.returns-in-NoMemory
returns-in-NoMemory c = search (rules, arith)
