use Rattle.std.proofs.Common.{rules, arith}
use Rattle.lr_uplink.proofs.sending.filler.Goals as goal

pub returns : goal.returns
returns c = search (rules, arith)
