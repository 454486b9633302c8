use Rattle.std.proofs.Common.{rules, arith}
use Rattle.lr_trellis.proofs.way_back.bit_of.Goals as goal

pub returns-then-line : goal.returns-then-line
returns-then-line c = search (rules, arith)
