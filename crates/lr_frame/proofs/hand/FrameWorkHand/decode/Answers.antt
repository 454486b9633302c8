use Rattle.std.proofs.Common.{rules, arith}
use Rattle.lr_frame.proofs.hand.FrameWorkHand.decode.Goals as goal

pub returns : goal.returns
returns c = search (rules, arith)
