use Rattle.std.proofs.Common.{arith, rules}
use Rattle.lr_io.proofs.source.ReadSourceSource.take.Goals as goal

pub returns-in-Err-clause-cause : goal.returns-in-Err-clause-cause
returns-in-Err-clause-cause g c = search (rules, arith)

pub returns-in-Err-clause-ended : goal.returns-in-Err-clause-ended
returns-in-Err-clause-ended g c = search (rules, arith)

pub returns-in-Ok-clause-errors : goal.returns-in-Ok-clause-errors
returns-in-Ok-clause-errors g c = search (rules, arith)
