use Rattle.std.proofs.Common.{rules, arith}
use Rattle.lr_cmd_print.proofs.outcome_lines.count_restored.Goals as goal

pub returns-in-Lost : goal.returns-in-Lost
returns-in-Lost c = search (rules, arith)
