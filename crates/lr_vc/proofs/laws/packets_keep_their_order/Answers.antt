use Rattle.lr_vc.proofs.History.{packets_of-append}
use Rattle.lr_vc.proofs.laws.packets_keep_their_order.Goals as goal

pub returns : goal.returns
returns c = packets_of-append
