use Rattle.std.proofs.Common.{rules, arith}
use Rattle.lr_downlinks.proofs.run.Run.receipt.Goals as goal

pub returns : goal.returns
returns c = search (rules, arith)
