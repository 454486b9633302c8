use Rattle.std.proofs.Common.{rules, arith}
use Rattle.lr_cmd_shelf.proofs.gone.put_gone.Goals as goal

pub returns-clause-put : goal.returns-clause-put
returns-clause-put g c = search (rules, arith)

pub returns-clause-stopped : goal.returns-clause-stopped
returns-clause-stopped g c = search (rules, arith)
