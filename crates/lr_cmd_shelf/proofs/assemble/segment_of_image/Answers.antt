use Rattle.std.proofs.Common.{rules, arith}
use Rattle.lr_cmd_shelf.proofs.assemble.segment_of_image.Goals as goal

pub returns-in-Some : goal.returns-in-Some
returns-in-Some c = search (rules, arith)

pub returns-in_default : goal.returns-in_default
returns-in_default c = search (rules, arith)
