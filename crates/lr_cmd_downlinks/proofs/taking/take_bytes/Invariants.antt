use Rattle.std.proofs.Common.{◌-◌, ◌≡◌, ◌≤◌, length, ◌+◌}
use Rattle.lr_downlinks.specs.declared.sizes.TheConstants.{MOST_BUNDLE_BYTES}
use Rattle.lr_cmd_downlinks.proofs.Taken.{HasTaken}
use Rattle.lr_cmd_downlinks.proofs.taking.take_bytes.Given as goal

-- these bytes were taken so far, and the source hasn't failed
abbrev pub invariant-pieces : goal.invariant-pieces
invariant-pieces g l = record {
  so_far : HasTaken g.S.Source l.bytes l.fn.source l.source;
  size : l.size ≡ length l.bytes;
  few : l.size ≤ (MOST_BUNDLE_BYTES + 1);
}

abbrev pub decreases-pieces : goal.decreases-pieces
decreases-pieces g l = (MOST_BUNDLE_BYTES + 1) - l.size
