use Rattle.std.proofs.Common.{rules, arith}
use Rattle.lr_causes.proofs.put.put_text.Goals as goal

pub returns-in-Err-clause-put : goal.returns-in-Err-clause-put
returns-in-Err-clause-put g c = search (rules, arith)
