use Rattle.std.proofs.Common.{◌≡◌, take}
use Rattle.lr_downlinks.specs.Merge.{times_in_order}
use Rattle.lr_downlinks.proofs.receipts.find_place.Given as goal

abbrev pub invariant-loop-place : goal.invariant-loop-place
invariant-loop-place l = times_in_order l.downlink (take l.place l.order) ≡ 0
