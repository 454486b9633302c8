use Rattle.std.proofs.Common.{rules, arith}
use Rattle.lr_cmd_print.proofs.outcome_lines.put_last.Goals as goal

pub returns-clause-put : goal.returns-clause-put
returns-clause-put g c = search (rules, arith)
