use Rattle.std.proofs.Common.{arith}
use Rattle.std.proofs.lemmas.Grind.{common_steps}
use Rattle.lr_rice.proofs.samples.step.Goals as goal

pub returns-else-value-eq0-clause-odd : goal.returns-else-value-eq0-clause-odd
returns-else-value-eq0-clause-odd c = grind (arith, common_steps)
