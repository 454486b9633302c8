use Rattle.lr_sent.proofs.Again.{sent_is_redecoded}
use Rattle.lr_sent.proofs.laws.sent_is_redecoded.Goals as goal

pub returns : goal.returns
returns c = sent_is_redecoded
