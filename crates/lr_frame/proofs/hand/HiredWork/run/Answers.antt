use Rattle.std.proofs.Common.{rules, arith}
use Rattle.lr_frame.proofs.hand.HiredWork.run.Goals as goal

pub returns : goal.returns
returns g c = search (rules, arith)
