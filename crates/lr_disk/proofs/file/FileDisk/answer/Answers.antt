use Rattle.std.proofs.Common.{arith, rules}
use Rattle.lr_disk.proofs.file.FileDisk.answer.Goals as goal

pub returns-in-Err-clause-cause : goal.returns-in-Err-clause-cause
returns-in-Err-clause-cause g c = search (rules, arith)
