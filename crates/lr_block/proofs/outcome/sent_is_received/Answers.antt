use Rattle.lr_block.proofs.Outcomes.{sent_is_received}
use Rattle.lr_block.proofs.outcome.sent_is_received.Goals as goal

pub returns : goal.returns
returns c = sent_is_received
