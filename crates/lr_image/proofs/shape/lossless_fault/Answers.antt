use Rattle.std.proofs.Common.{arith}
use Rattle.std.proofs.lemmas.Grind.{common_steps}
use Rattle.lr_image.specs.Shapes.{lossless_fault}
use Rattle.lr_image.proofs.shape.lossless_fault.Goals as goal

pub returns-then-block-ne0-clause-value : goal.returns-then-block-ne0-clause-value
unfolding lossless_fault
returns-then-block-ne0-clause-value c = grind (arith, common_steps)
