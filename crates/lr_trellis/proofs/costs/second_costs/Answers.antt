use Rattle.std.proofs.Common.{rules, arith}
use Rattle.lr_trellis.proofs.costs.second_costs.Goals as goal

pub returns-then-line-clause-zero : goal.returns-then-line-clause-zero
returns-then-line-clause-zero c = search (rules, arith)
