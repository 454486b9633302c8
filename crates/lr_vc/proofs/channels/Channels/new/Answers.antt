use Rattle.std.proofs.Common.{refl}
use Rattle.lr_vc.proofs.Stands.{stands_new}
use Rattle.lr_vc.proofs.channels.Channels.new.Goals as goal

pub returns : goal.returns
returns c = stands_new _ refl c.new.ensures.items
