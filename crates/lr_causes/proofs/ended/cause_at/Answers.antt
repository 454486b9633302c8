use Rattle.std.proofs.Common.{rules, arith}
use Rattle.lr_causes.proofs.ended.cause_at.Goals as goal

pub returns-in-Fault : goal.returns-in-Fault
returns-in-Fault c = search (rules, arith)
