use Rattle.std.proofs.Common.{◌-◌, ◌≡◌, ◌≤◌, ◌*◌, length}
use Rattle.std.specs.Prelude.{take}
use Rattle.std.specs.List.{sum_by}
use Rattle.lr_downlinks.specs.declared.sizes.TheConstants.{MOST_BUNDLE_BYTES}
use Rattle.lr_cmd_downlinks.proofs.receipts.symbols_of.Given as goal

-- the symbols of the streams before this one
abbrev pub invariant-downlinks : goal.invariant-downlinks
invariant-downlinks l = record {
  inside : l.downlink ≤ length l.bundle;
  sum : l.symbols ≡ sum_by length (take l.downlink l.bundle);
  few : l.symbols ≤ l.downlink * MOST_BUNDLE_BYTES;
}

abbrev pub decreases-downlinks : goal.decreases-downlinks
decreases-downlinks l = length l.bundle - l.downlink
