use Rattle.std.proofs.Common.{rules, arith}
use Rattle.lr_cmd_print.proofs.packet_lines.is_good.Goals as goal

pub returns : goal.returns
returns c = search (rules, arith)
