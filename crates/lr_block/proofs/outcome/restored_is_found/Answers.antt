use Rattle.lr_block.proofs.Outcomes.{restored_of-is}
use Rattle.lr_block.proofs.outcome.restored_is_found.Goals as goal

pub returns : goal.returns
returns c = restored_of-is
