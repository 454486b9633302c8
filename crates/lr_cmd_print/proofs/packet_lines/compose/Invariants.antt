use Rattle.std.proofs.Common.{◌≡◌, ◌++◌, take}
use Rattle.lr_cmd_print.specs.Packets.{lines_from}
use Rattle.lr_cmd_print.proofs.packet_lines.compose.Given as goal

abbrev pub invariant-loop-place : goal.invariant-loop-place
invariant-loop-place l = l.lines ≡ l.fn.lines ++ lines_from l.first (take l.place l.packets)
