use Rattle.std.proofs.Common.{rules, arith}
use Rattle.lr_cmd_print.proofs.frame_lines.frames.Goals as goal

pub returns-in-Err : goal.returns-in-Err
returns-in-Err g c = search (rules, arith)
