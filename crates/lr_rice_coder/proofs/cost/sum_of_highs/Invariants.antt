use Rattle.std.proofs.Common.{◌≡◌, ◌≤◌, ◌*◌, take}
use Rattle.lr_rice_coder.specs.Costs.{highs_sum}
use Rattle.lr_rice_coder.proofs.cost.sum_of_highs.Given as goal

-- the values so far
abbrev pub invariant-loop-value : goal.invariant-loop-value
invariant-loop-value l = record {
  sum_is : l.sum ≡ highs_sum l.low_bits (take l.value-index l.values);
  fits : l.sum ≤ l.value-index * 65535;
}
