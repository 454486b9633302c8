use Rattle.lr_uplink.proofs.Receiving.{files_are_received}
use Rattle.lr_uplink.proofs.laws.files_are_received.Goals as goal

pub returns : goal.returns
returns c = files_are_received
