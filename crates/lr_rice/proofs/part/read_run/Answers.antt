use Rattle.std.proofs.Common.{arith}
use Rattle.std.proofs.lemmas.Grind.{common_steps}
use Rattle.lr_rice.proofs.part.read_run.Goals as goal

pub returns-clause-ok : goal.returns-clause-ok
returns-clause-ok c = grind (arith, common_steps)

pub returns-then-run-from-clause-err : goal.returns-then-run-from-clause-err
returns-then-run-from-clause-err c = grind (arith, common_steps)
