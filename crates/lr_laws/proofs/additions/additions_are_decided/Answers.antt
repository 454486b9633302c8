use Rattle.lr_laws.proofs.Deciding.{additions_are_decided}
use Rattle.lr_laws.proofs.additions.additions_are_decided.Goals as goal

pub returns : goal.returns
returns c = additions_are_decided
