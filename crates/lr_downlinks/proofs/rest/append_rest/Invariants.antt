use Rattle.std.proofs.Common.{◌≡◌, false}
use Rattle.lr_downlinks.proofs.Leftover.{AreDone}
use Rattle.lr_downlinks.proofs.rest.append_rest.Given as goal

abbrev pub invariant-loop-member : goal.invariant-loop-member
invariant-loop-member g l = record {
  done : AreDone g.N.RunStart.start l.book l.member-index;
  works : l.book.failed ≡ false;
}
