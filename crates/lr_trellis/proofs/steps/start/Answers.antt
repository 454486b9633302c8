use Rattle.std.proofs.Common.{rules, arith}
use Rattle.lr_trellis.proofs.steps.start.Goals as goal

pub returns-then-line-clause-value : goal.returns-then-line-clause-value
returns-then-line-clause-value c = search (rules, arith)
