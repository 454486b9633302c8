use Rattle.std.proofs.Common.{arith}
use Rattle.lr_rice_coder.proofs.line.append.Goals as goal

pub returns-clause-short : goal.returns-clause-short
returns-clause-short c = omega arith
