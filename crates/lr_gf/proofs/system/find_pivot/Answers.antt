use Rattle.std.proofs.Common.{rules, arith}
use Rattle.lr_gf.proofs.system.find_pivot.Goals as goal

pub returns-then-cell-ne0 : goal.returns-then-cell-ne0
returns-then-cell-ne0 c = search (rules, arith)
