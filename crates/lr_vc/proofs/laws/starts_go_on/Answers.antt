use Rattle.lr_vc.proofs.Starts.{starts_in_zone-closed}
use Rattle.lr_vc.proofs.laws.starts_go_on.Goals as goal

pub returns : goal.returns
returns c = starts_in_zone-closed
