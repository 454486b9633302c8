use Rattle.std.proofs.Common.{◌-◌, ◌/◌, ◌^◌, ◌<◌, ◌≤◌}
use Rattle.lr_rice_coder.proofs.cost.first_candidate.Given as goal

abbrev pub invariant-loop-low_bits : goal.invariant-loop-low_bits
invariant-loop-low_bits l = record {
  inside : l.low_bits ≤ l.most;
  far : 0 < l.low_bits → l.triple ≤ l.sum / 2 ^ (l.low_bits - 1);
}

abbrev pub decreases-loop-low_bits : goal.decreases-loop-low_bits
decreases-loop-low_bits l = l.most - l.low_bits
