use Rattle.std.proofs.Common.{◌≡◌, ◌≤◌, length, take}
use Rattle.lr_packet.specs.Verdict.{good_packets}
use Rattle.lr_cmd_print.proofs.packet_lines.count_good.Given as goal

abbrev pub invariant-loop-raw : goal.invariant-loop-raw
invariant-loop-raw l = record {
  good : l.good ≡ length (good_packets (take l.raw-index l.packets));
  few : l.good ≤ l.raw-index;
}
