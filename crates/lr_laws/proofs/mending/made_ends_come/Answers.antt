use Rattle.lr_laws.proofs.MadeEnds.{made_ends}
use Rattle.lr_laws.proofs.mending.made_ends_come.Goals as goal

pub returns : goal.returns
returns c = made_ends
