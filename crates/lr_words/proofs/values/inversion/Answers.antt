use Rattle.std.proofs.Common.{rules, arith}
use Rattle.lr_words.proofs.values.inversion.Goals as goal

pub returns-in_default : goal.returns-in_default
returns-in_default c = search (rules, arith)
