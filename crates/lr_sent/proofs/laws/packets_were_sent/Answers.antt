use Rattle.lr_sent.proofs.Carrying.{packets_were_sent}
use Rattle.lr_sent.proofs.laws.packets_were_sent.Goals as goal

pub returns : goal.returns
returns c = packets_were_sent
