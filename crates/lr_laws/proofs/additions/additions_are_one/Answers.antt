use Rattle.lr_laws.proofs.Deciding.{additions_are_one}
use Rattle.lr_laws.proofs.additions.additions_are_one.Goals as goal

pub returns : goal.returns
returns c = additions_are_one
