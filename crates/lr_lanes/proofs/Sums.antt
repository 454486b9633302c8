-- Sums of lanes, at any width of lanes.
use Rattle.std.proofs.Common.{arith, ◌≡◌, ◌+◌, ◌<◌, ◌≤◌, ◌^◌, ℕ, List, length, slice_index, Fits}
use Rattle.std.proofs.lemmas.Simd.{Each1-from_get_or, Each2-of}
use lib.Lanes.{Each2}
use mir.Syntax.{Width}
use mir.Val.{bits}
use Rattle.lr_lanes.specs.declared.lanes.TheConstants.{STEP_COST}

fits_sum : (w : Width) (a b : ℕ) → a + STEP_COST < 2 ^ bits w → b ≤ STEP_COST → Fits w (a + b)
fits_sum w a b l m = record { fits = omega arith }

-- lanes with room for a step, and what the step costs
pub sums_fit : (w : Width) (old costs : List ℕ) → length old ≡ 32 → length costs ≡ 32 →
    ((k : ℕ) → k < 32 → slice_index old k + STEP_COST < 2 ^ bits w) →
    ((k : ℕ) → k < 32 → slice_index costs k ≤ STEP_COST) →
    Each2 (λ a b. Fits w (a + b)) old costs
sums_fit w old costs old_size costs_size small most =
    Each2-of (λ x. x + STEP_COST < 2 ^ bits w) (λ x. x ≤ STEP_COST) (λ a b. Fits w (a + b)) (fits_sum w) old costs
    (Each1-from_get_or (λ x. x + STEP_COST < 2 ^ bits w) old 0 (λ k l. small k (omega arith)))
    (Each1-from_get_or (λ x. x ≤ STEP_COST) costs 0 (λ k l. most k (omega arith)))
