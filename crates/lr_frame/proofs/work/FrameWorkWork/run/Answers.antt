use Rattle.std.proofs.Common.{rules, arith}
use Rattle.lr_frame.proofs.work.FrameWorkWork.run.Goals as goal

pub returns : goal.returns
returns c = search (rules, arith)
