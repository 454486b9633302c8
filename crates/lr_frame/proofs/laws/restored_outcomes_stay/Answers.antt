use Rattle.lr_frame.proofs.Passing.{restored_stay}
use Rattle.lr_frame.proofs.laws.restored_outcomes_stay.Goals as goal

pub returns : goal.returns
returns c = restored_stay
