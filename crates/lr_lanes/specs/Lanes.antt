-- The 64 states in lanes of sixteen bits: their order, what a step costs them, and how far they are from the middle.
use Rattle.std.specs.Prelude.{◌≡◌, ℕ, ℤ, pos, ◌+◌, ◌-◌, ◌*◌, ◌/◌, ◌%◌, ◌^◌, ◌<◌, ◌≤◌, not, true, false, List, [], ◌∷◌}
use Rattle.std.specs.Prelude.{map, slice_index, slice_index_or}
use Rattle.std.specs.List.{range_with_len}
use Rattle.lr_conv.specs.declared.line.LineCode.{LineCode}
use Rattle.lr_trellis.specs.Path.{symbol_cost}
use Rattle.lr_trellis.specs.Words.{branch_by}
use Rattle.lr_lanes.specs.declared.lanes.TheConstants.{HALF_STEP, STEP_COST}
use Rattle.lr_lanes.specs.declared.narrow_forward.TheConstants.{MIDDLE, SPREAD}

-- Eight states in a row have eight lanes in a row. Of the four such groups in each half of the states, the second and
-- the third have changed places.
abbrev pub lane_of : ℕ → ℕ
lane_of s = 32 * (s / 32) + 16 * (s / 8 % 2) + 8 * (s / 16 % 2) + s % 8

-- what the lanes hold, in the order of the states
unfoldable pub in_order : List ℕ → List ℕ
in_order lanes = map (λ s. slice_index lanes (lane_of s)) (range_with_len 0 64)

-- a number less another one, in sixteen bits
abbrev pub lowered : ℕ → ℕ → ℕ
lowered n x = (x + (2 ^ 16 - n)) % 2 ^ 16

-- Sixteen lanes have the costs of the first eight and of the third eight states. Those of the others are the same.
abbrev pub state_of : ℕ → ℕ
state_of lane = 16 * (lane / 8) + lane % 8

-- what the standard's pairs 00, 01, 10 and 11 cost in a step of a window
unfoldable pub pair_costs_of : LineCode → List ℤ → ℕ → List ℕ
pair_costs_of line window step =
    let here = slice_index_or window (2 * step) (pos 0) in
    let next = slice_index_or window (2 * step + 1) (pos 0) in
    (symbol_cost false here + symbol_cost (not line.inverted) next) ∷
    (symbol_cost false here + symbol_cost line.inverted next) ∷
    (symbol_cost true here + symbol_cost (not line.inverted) next) ∷
    (symbol_cost true here + symbol_cost line.inverted next) ∷ []

-- sixteen lanes with what steps with the level 0 cost, by the costs of the four pairs, less half of a step's most
pub record HasCosts (lanes costs : List ℕ) : Type 0 where
  pub most : (m : ℕ) → branch_by costs m ≤ STEP_COST
  pub sums : (k : ℕ) → k < 32 → branch_by costs (2 * k) + branch_by costs (2 * k + 1) ≡ STEP_COST
  pub held : (j : ℕ) → j < 16 → slice_index lanes j ≡ lowered HALF_STEP (branch_by costs (2 * state_of j))

-- how far lanes are from the middle: as the costs of two states from one another, and half of a step's most a step
pub record IsWithin (steps : ℕ) (lanes : List ℕ) : Type 0 where
  pub least : (s : ℕ) → s < 64 → MIDDLE ≤ slice_index lanes s + SPREAD + HALF_STEP * steps
  pub most : (s : ℕ) → s < 64 → slice_index lanes s ≤ MIDDLE + SPREAD + HALF_STEP * steps
