use Rattle.std.proofs.Common.{arith}
use Rattle.std.proofs.lemmas.Grind.{common_steps}
use Rattle.lr_segment.proofs.assembly.count_uncovered.Goals as goal

pub returns : goal.returns
returns c = grind (arith, common_steps)
