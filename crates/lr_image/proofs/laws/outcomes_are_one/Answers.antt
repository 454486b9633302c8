use Rattle.lr_image.proofs.OneReading.{outcomes_are_one}
use Rattle.lr_image.proofs.laws.outcomes_are_one.Goals as goal

pub returns : goal.returns
returns c = outcomes_are_one
