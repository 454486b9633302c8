use Rattle.std.proofs.Common.{arith}
use Rattle.std.proofs.lemmas.Grind.{common_steps}
use Rattle.lr_image.proofs.shape.lossless_shape.Goals as goal

pub returns-in-Some-size_fault-clause-value : goal.returns-in-Some-size_fault-clause-value
returns-in-Some-size_fault-clause-value c = grind (arith, common_steps)
