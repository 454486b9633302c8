use Rattle.lr_sent.proofs.Receiving.{blocks_are_received}
use Rattle.lr_sent.proofs.laws.blocks_are_received.Goals as goal

pub returns : goal.returns
returns c = blocks_are_received
