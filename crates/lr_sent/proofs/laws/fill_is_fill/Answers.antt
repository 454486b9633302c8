use Rattle.lr_sent.proofs.MadeFiles.{fill_channel}
use Rattle.lr_sent.proofs.laws.fill_is_fill.Goals as goal

pub returns : goal.returns
returns c = fill_channel
