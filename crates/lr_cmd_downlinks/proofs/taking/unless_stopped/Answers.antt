use Rattle.std.proofs.Common.{rules}
use Rattle.lr_cmd_downlinks.proofs.taking.unless_stopped.Goals as goal

pub returns-in-Limit : goal.returns-in-Limit
returns-in-Limit c = search rules

pub returns-in-Fault : goal.returns-in-Fault
returns-in-Fault c = search rules
