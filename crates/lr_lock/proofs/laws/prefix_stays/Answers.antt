use Rattle.lr_lock.proofs.Existing.{prefix_stays}
use Rattle.lr_lock.proofs.laws.prefix_stays.Goals as goal

pub returns : goal.returns
returns c tail symbols more t = prefix_stays tail symbols more t
