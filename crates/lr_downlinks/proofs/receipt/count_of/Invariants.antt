use Rattle.std.proofs.Common.{◌≡◌, ◌≤◌, take}
use Rattle.lr_downlinks.specs.Merge.{times_in_order}
use Rattle.lr_downlinks.proofs.receipt.count_of.Given as goal

abbrev pub invariant-loop-one : goal.invariant-loop-one
invariant-loop-one l = (l.count ≡ times_in_order l.downlink (take l.one-index l.order)) × (l.count ≤ l.one-index)
