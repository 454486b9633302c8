use Rattle.std.proofs.Common.{◌≡◌, ◌-◌, false, length}
use Rattle.lr_downlinks.specs.Ending.{BookGoesOn}
use Rattle.lr_downlinks.specs.Merge.{times_in_order}
use Rattle.lr_downlinks.proofs.rest.append_left.Given as goal

abbrev pub invariant-files : goal.invariant-files
invariant-files g l = record {
  on : BookGoesOn l.fn.book l.book;
  works : l.book.failed ≡ false;
}

abbrev pub decreases-files : goal.decreases-files
decreases-files g l = length l.files - times_in_order l.downlink l.book.order
