use Rattle.std.proofs.Common.{arith}
use Rattle.std.proofs.lemmas.Grind.{common_steps}
use Rattle.lr_headers.proofs.records.entry_at.Goals as goal

pub returns-then-has_wrong_length-clause-err : goal.returns-then-has_wrong_length-clause-err
returns-then-has_wrong_length-clause-err c = grind (arith, common_steps)
