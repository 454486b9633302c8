use Rattle.std.proofs.Common.{arith}
use Rattle.std.proofs.lemmas.Grind.{common_steps}
use Rattle.lr_render.proofs.plan.plain_fault.Goals as goal

pub returns-in-None-clause-none : goal.returns-in-None-clause-none
returns-in-None-clause-none c = grind (arith, common_steps)

pub returns-in-None-clause-some : goal.returns-in-None-clause-some
returns-in-None-clause-some c = grind (arith, common_steps)
