use Rattle.std.proofs.Common.{arith}
use Rattle.std.proofs.lemmas.Grind.{common_steps}
use Rattle.lr_image.proofs.shape.shape_of.Goals as goal

pub returns-then-is_encrypted-clause-value : goal.returns-then-is_encrypted-clause-value
returns-then-is_encrypted-clause-value c = grind (arith, common_steps)
