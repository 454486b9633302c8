use Rattle.lr_block.proofs.Outcomes.{outcome_is_the_one}
use Rattle.lr_block.proofs.outcome.outcome_is_the_one.Goals as goal

pub returns : goal.returns
returns c = outcome_is_the_one
