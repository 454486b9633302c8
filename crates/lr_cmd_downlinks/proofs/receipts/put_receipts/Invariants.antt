use Rattle.std.proofs.Common.{◌-◌, ◌≤◌}
use Rattle.std.specs.List.{flat_map, range_with_len}
use Rattle.lr_causes.proofs.Joining.{PutSoFar}
use Rattle.lr_cmd_downlinks.specs.Lines.{downlink_lines}
use Rattle.lr_cmd_downlinks.proofs.receipts.put_receipts.Given as goal

-- the lines of the downlinks before this one were put
abbrev pub invariant-downlinks : goal.invariant-downlinks
invariant-downlinks g l = record {
  inside : l.downlink ≤ l.count;
  few : l.count ≤ 16;
  so_far : PutSoFar g.O.Sink (flat_map (downlink_lines l.run.base l.run.order)) (range_with_len 0 l.count) l.fn.out
      (range_with_len l.downlink (l.count - l.downlink)) l.out;
}

abbrev pub decreases-downlinks : goal.decreases-downlinks
decreases-downlinks g l = l.count - l.downlink
