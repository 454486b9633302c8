use Rattle.lr_sent.proofs.MadeBlocks.{stream_is_received}
use Rattle.lr_sent.proofs.laws.stream_is_received.Goals as goal

pub returns : goal.returns
returns c = stream_is_received
