use Rattle.std.proofs.Common.{rules, arith}
use Rattle.lr_refusals.proofs.causes.file_or_gone.Goals as goal

pub returns-in-Discarded : goal.returns-in-Discarded
returns-in-Discarded c = search (rules, arith)
