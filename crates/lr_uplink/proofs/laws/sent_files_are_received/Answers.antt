use Rattle.lr_uplink.proofs.Receiving.{sent_files_are_received}
use Rattle.lr_uplink.proofs.laws.sent_files_are_received.Goals as goal

pub returns : goal.returns
returns c = sent_files_are_received
