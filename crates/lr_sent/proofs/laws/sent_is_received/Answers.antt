use Rattle.lr_sent.proofs.Receiving.{sent_is_received}
use Rattle.lr_sent.proofs.laws.sent_is_received.Goals as goal

pub returns : goal.returns
returns c = sent_is_received
