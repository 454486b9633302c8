use Rattle.lr_vc.proofs.History.{packets_of-more}
use Rattle.lr_vc.proofs.laws.frames_add_their_packets.Goals as goal

pub returns : goal.returns
returns c = packets_of-more
