use Rattle.std.proofs.Common.{arith, rules}
use Rattle.lr_cmd_downlinks.proofs.taking.flaw_of.Goals as goal

pub returns-in-Rest : goal.returns-in-Rest
returns-in-Rest c = search (rules, arith)
