use Rattle.std.proofs.Common.{◌≡◌, ◌<◌, ◌≤◌, ◌*◌, All, sum, ◌+◌}
use Rattle.lr_bits.specs.Sizes.{most_body_bytes}
use Rattle.lr_shelf_format.specs.Record.{numbers_in}
use Rattle.lr_shelf_format.proofs.read.sum_of.Given as goal

abbrev pub invariant-loop-place : goal.invariant-loop-place
invariant-loop-place l = record {
  short : All (λ one. one ≤ most_body_bytes) (numbers_in l.place l.pairs);
  total : l.total ≡ sum (numbers_in l.place l.pairs);
  low : l.total ≤ 65535 * l.place;
}
