use Rattle.std.proofs.Common.{rules, arith}
use Rattle.lr_conv.proofs.line.LineEncoder.new.Goals as goal

pub returns : goal.returns
returns c = search (rules, arith)
