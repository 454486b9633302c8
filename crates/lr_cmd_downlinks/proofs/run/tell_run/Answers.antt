use Rattle.std.proofs.Common.{arith, rules}
use Rattle.lr_cmd_downlinks.proofs.run.tell_run.Goals as goal

pub returns-in-Disk : goal.returns-in-Disk
returns-in-Disk g c = search (rules, arith)

pub returns-in-NoMemory : goal.returns-in-NoMemory
returns-in-NoMemory g c = search (rules, arith)
