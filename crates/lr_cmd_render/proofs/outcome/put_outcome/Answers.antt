use Rattle.std.proofs.Common.{rules, arith}
use Rattle.lr_cmd_render.proofs.outcome.put_outcome.Goals as goal

pub returns-in-Err-clause-puts : goal.returns-in-Err-clause-puts
returns-in-Err-clause-puts g c = search (rules, arith)
