use Rattle.std.proofs.Common.{rules, arith}
use Rattle.lr_cmd_print.proofs.frame_lines.put_frame.Goals as goal

pub returns-in-Lost-clause-succeeds : goal.returns-in-Lost-clause-succeeds
returns-in-Lost-clause-succeeds g c = search (rules, arith)
