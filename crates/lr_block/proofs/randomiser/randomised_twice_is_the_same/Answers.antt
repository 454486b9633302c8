use Rattle.lr_block.proofs.Sequence.{randomised_block-randomised_block}
use Rattle.lr_block.proofs.randomiser.randomised_twice_is_the_same.Goals as goal

pub returns : goal.returns
returns c = randomised_block-randomised_block
