use Rattle.std.proofs.Common.{arith}
use Rattle.std.proofs.lemmas.Grind.{common_steps}
use Rattle.lr_rice.proofs.choice.short_width.Goals as goal

pub returns-else-bits-le8-clause-value : goal.returns-else-bits-le8-clause-value
returns-else-bits-le8-clause-value c = grind (arith, common_steps)
