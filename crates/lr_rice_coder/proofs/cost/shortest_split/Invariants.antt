use Rattle.std.proofs.Common.{◌≡◌, ◌-◌, ◌+◌, ◌*◌, ◌<◌, ◌≤◌, length}
use Rattle.lr_rice_coder.specs.Costs.{highs_sum}
use Rattle.lr_rice_coder.proofs.cost.shortest_split.Given as goal

-- the split by a bit less is longer
abbrev pub invariant-loop-low_bits : goal.invariant-loop-low_bits
invariant-loop-low_bits l = record {
  inside : l.low_bits ≤ l.most;
  highs_are : l.highs ≡ highs_sum l.low_bits l.values;
  fits : l.highs ≤ length l.values * 65535;
  falls : 0 < l.low_bits
      → highs_sum l.low_bits l.values + length l.values < highs_sum (l.low_bits - 1) l.values;
}

abbrev pub decreases-loop-low_bits : goal.decreases-loop-low_bits
decreases-loop-low_bits l = l.most - l.low_bits
