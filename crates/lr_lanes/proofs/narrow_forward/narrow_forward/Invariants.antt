use Rattle.std.proofs.Common.{◌≡◌, ◌≤◌, ◌<◌, ◌++◌, ◌+◌, ◌%◌, ℕ, length, slice_index}
use Rattle.lr_trellis.proofs.Forward.{Forward}
use Rattle.lr_lanes.specs.Lanes.{HasCosts, in_order, IsWithin, pair_costs_of}
use Rattle.lr_lanes.specs.declared.narrow_forward.TheConstants.{MIDDLE}
use Rattle.lr_lanes.proofs.Narrow.{costs_from}
use Rattle.lr_lanes.proofs.narrow_forward.narrow_forward.Given as goal

abbrev pub invariant-loop-i : goal.invariant-loop-i
invariant-loop-i l = record {
  low_size : length l.low ≡ 32;
  high_size : length l.high ≡ 32;
  costs_size : length l.costs ≡ 16;
  costs : HasCosts l.costs (pair_costs_of l.fn.line l.window l.i);
  within : IsWithin ((l.i + 31) % 32 + 1) (l.low ++ l.high);
  above : (s : ℕ) → s < 64 → MIDDLE ≤ l.base + slice_index (in_order (l.low ++ l.high)) s;
  steps : Forward l.fn.line l.window l.i (costs_from l.base (l.low ++ l.high)) l.words;
}
