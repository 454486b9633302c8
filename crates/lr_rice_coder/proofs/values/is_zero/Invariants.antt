use Rattle.std.proofs.Common.{◌≡◌, drop}
use Rattle.lr_rice_coder.specs.Shortest.{all_zero}
use Rattle.lr_rice_coder.proofs.values.is_zero.Given as goal

abbrev pub invariant-loop-value : goal.invariant-loop-value
invariant-loop-value l = all_zero l.values ≡ all_zero (drop l.value-index l.values)
