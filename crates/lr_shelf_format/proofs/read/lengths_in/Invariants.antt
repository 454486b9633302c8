use Rattle.std.proofs.Common.{◌≡◌}
use Rattle.lr_shelf_format.specs.Record.{numbers_in}
use Rattle.lr_shelf_format.proofs.read.lengths_in.Given as goal

abbrev pub invariant-loop-place : goal.invariant-loop-place
invariant-loop-place l = l.lengths ≡ numbers_in l.place l.pairs
