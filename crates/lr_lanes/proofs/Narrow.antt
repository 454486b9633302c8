-- Lanes that are true costs, each raised by the middle and lowered by one common number.
use Rattle.std.proofs.Common.{arith, ap, refl, sym, ◌∙◌, ◌≡◌, ◌+◌, ◌-◌, ◌*◌, ◌/◌, ◌<◌, ◌≤◌, ◌++◌, ℕ, ℤ}
use Rattle.std.proofs.Common.{List, length, slice_index, slice_set, min, nat_lt, cond, Bool, true, false}
use Rattle.std.proofs.lemmas.List.{get_or-map}
use Rattle.std.proofs.lemmas.Bool.{eq-eqb}
use Rattle.std.specs.Prelude.{map}
use Rattle.lr_conv.specs.declared.line.LineCode.{LineCode}
use Rattle.lr_trellis.specs.Trellis.{branch_of, start_of, start_state}
use Rattle.lr_trellis.specs.Words.{branch_by, decision_of, IsDecided}
use Rattle.lr_trellis.proofs.Forward.{Forward, more}
use Rattle.lr_lanes.specs.Lanes.{in_order, lane_of, pair_costs_of, IsWithin}
use Rattle.lr_lanes.specs.declared.lanes.TheConstants.{HALF_STEP, STEP_COST}
use Rattle.lr_lanes.specs.declared.narrow_forward.TheConstants.{MIDDLE, SPREAD}
use Rattle.lr_lanes.proofs.LaneOrder.{back, in_order_at, lane_at, lane_below, length-in_order, turned_in_order}
use Rattle.lr_lanes.proofs.Merging.{both_halves}
use Rattle.lr_lanes.proofs.SignedStep.{lt_moved}
use Rattle.lr_lanes.proofs.Spread.{spread_after, six_steps}
use Rattle.lr_lanes.proofs.StepCosts.{branches_are}

-- the costs of the states in order, from what is in their lanes
pub costs_from : ℕ → List ℕ → List ℕ
costs_from base lanes = map (λ x. base + x - MIDDLE) (in_order lanes)

pub costs_at : (base : ℕ) (lanes : List ℕ) (s : ℕ) → s < 64 →
    slice_index (costs_from base lanes) s ≡ base + slice_index (in_order lanes) s - MIDDLE
unfolding costs_from
costs_at base lanes s l =
    get_or-map (λ x. base + x - MIDDLE) (in_order lanes) s 0 0 (let size = length-in_order lanes in omega arith)

-- what holds for each state in its lane holds for each lane
module _ (lanes : List ℕ) (base : ℕ)
    (above : (s : ℕ) → s < 64 → MIDDLE ≤ base + slice_index (in_order lanes) s) where
  pub lane_above : (j : ℕ) → j < 64 → MIDDLE ≤ base + slice_index lanes j
  lane_above j l = omega (arith, lane_at lanes j l, above (lane_of j) (lane_below j l))

  -- two states are never further apart than six steps cost
  pub near_lanes : (line : LineCode) (w : List ℤ) (i : ℕ) (words : List ℕ) → 6 ≤ i →
      Forward line w i (costs_from base lanes) words → (s t : ℕ) → s < 64 → t < 64 →
      slice_index lanes s ≤ slice_index lanes t + SPREAD
  near_lanes line w i words long f s t l m =
      let s_low = lane_below s l in
      let t_low = lane_below t m in
      omega (
        arith,
        lane_at lanes s l,
        lane_at lanes t m,
        above (lane_of s) s_low,
        above (lane_of t) t_low,
        f.costs (lane_of s) s_low,
        f.costs (lane_of t) t_low,
        costs_at base lanes (lane_of s) s_low,
        costs_at base lanes (lane_of t) t_low,
        spread_after (start_of line) (branch_of line w) i long (λ k n h. f.most k n h) (lane_of s) (lane_of t) s_low
            t_low,
      )

-- the first lanes, from the costs of 32 bits
module _
    (costs first_low first_high turned_low turned_high low high : List ℕ)
    (first_size : length first_low ≡ 32)
    (turned_size : length turned_low ≡ 32)
    (size : length low ≡ 32)
    (whole : first_low ++ first_high ≡ costs)
    (turned_lows : (k : ℕ) → k < 32 → slice_index turned_low k ≡ slice_index first_low (lane_of k))
    (turned_highs : (k : ℕ) → k < 32 → slice_index turned_high k ≡ slice_index first_high (lane_of k))
    (lows : (k : ℕ) → k < 32 → slice_index low k ≡ MIDDLE + slice_index turned_low k)
    (highs : (k : ℕ) → k < 32 → slice_index high k ≡ MIDDLE + slice_index turned_high k)
  where
    pub first_lane : (j : ℕ) → j < 64 → slice_index (low ++ high) j ≡ MIDDLE + slice_index costs (lane_of j)
    first_lane j l =
        both_halves (λ x y. x ≡ MIDDLE + y) low high turned_low turned_high size turned_size lows highs j l
        ∙ ap (λ x. MIDDLE + x)
        (turned_in_order first_low first_high turned_low turned_high first_size turned_size turned_lows turned_highs j l
        ∙ in_order_at (first_low ++ first_high) j l ∙ ap (λ (z : List ℕ). slice_index z (lane_of j)) whole)

    pub first_state : (s : ℕ) → s < 64 → slice_index (in_order (low ++ high)) s ≡ MIDDLE + slice_index costs s
    first_state s l =
        in_order_at (low ++ high) s l ∙ first_lane (lane_of s) (lane_below s l)
        ∙ ap (λ k. MIDDLE + slice_index costs k) (back s l)

    pub first_within : ((s : ℕ) → s < 64 → slice_index costs s ≤ SPREAD) → IsWithin 6 (low ++ high)
    first_within small = record {
      least = λ j l. omega (arith, first_lane j l);
      most = λ j l. omega (arith, first_lane j l, small (lane_of j) (lane_below j l));
    }

-- the last costs, from the lanes
pub last_costs : (base : ℕ) (low high costs_low costs_high turned_low turned_high : List ℕ) → length low ≡ 32 →
    length costs_low ≡ 32 → length turned_low ≡ 32 →
    ((k : ℕ) → k < 32 → slice_index costs_low k + MIDDLE ≡ base + slice_index low k) →
    ((k : ℕ) → k < 32 → slice_index costs_high k + MIDDLE ≡ base + slice_index high k) →
    ((k : ℕ) → k < 32 → slice_index turned_low k ≡ slice_index costs_low (lane_of k)) →
    ((k : ℕ) → k < 32 → slice_index turned_high k ≡ slice_index costs_high (lane_of k)) →
    (s : ℕ) → s < 64 → slice_index (turned_low ++ turned_high) s ≡ slice_index (costs_from base (low ++ high)) s
last_costs base low high costs_low costs_high turned_low turned_high size costs_size turned_size lows highs turned_lows
    turned_highs s l =
    omega (
      arith,
      turned_in_order costs_low costs_high turned_low turned_high costs_size turned_size turned_lows turned_highs s l,
      in_order_at (costs_low ++ costs_high) s l,
      both_halves (λ x y. x + MIDDLE ≡ base + y) costs_low costs_high low high costs_size size lows highs (lane_of s)
          (lane_below s l),
      in_order_at (low ++ high) s l,
      costs_at base (low ++ high) s l,
    )

module _
    (line : LineCode)
    (w : List ℤ)
    (i word base roomy_base : ℕ)
    (lanes roomy stepped words : List ℕ)
    (before : Forward line w i (costs_from base lanes) words)
    (above : (s : ℕ) → s < 64 → MIDDLE ≤ base + slice_index (in_order lanes) s)
    (same : (j : ℕ) → j < 64 → roomy_base + slice_index roomy j ≡ base + slice_index lanes j)
    (below : (m : ℕ) → branch_by (pair_costs_of line w i) m ≤ STEP_COST)
    (least : (s : ℕ) → s < 64 → slice_index (in_order stepped) s + HALF_STEP ≡
    min (slice_index (in_order roomy) (s / 2) + branch_by (pair_costs_of line w i) s)
    (slice_index (in_order roomy) (s / 2 + 32) + branch_by (pair_costs_of line w i) (s + 64)))
    (chosen : (s : ℕ) → s < 64 → decision_of word s ≡
    nat_lt (slice_index (in_order roomy) (s / 2 + 32) + branch_by (pair_costs_of line w i) (s + 64))
    (slice_index (in_order roomy) (s / 2) + branch_by (pair_costs_of line w i) s))
    (room : i < length words)
  where
    abbrev branch : ℕ → ℕ
    branch m = branch_by (pair_costs_of line w i) m

    roomy_at : (s : ℕ) → s < 64 → roomy_base + slice_index (in_order roomy) s ≡ base + slice_index (in_order lanes) s
    roomy_at s l =
        omega (
          arith,
          same (lane_of s) (lane_below s l),
          in_order_at lanes s l,
          in_order_at roomy s l,
        )

    -- the cost of a state before the step, and the middle
    old_at : (s : ℕ) → s < 64 →
        slice_index (costs_from base lanes) s + MIDDLE ≡ roomy_base + slice_index (in_order roomy) s
    old_at s l = omega (arith, costs_at base lanes s l, above s l, roomy_at s l)

    pub still_above : (s : ℕ) → s < 64 → MIDDLE ≤ roomy_base + HALF_STEP + slice_index (in_order stepped) s
    still_above s l =
        omega (arith, least s l, old_at (s / 2) (omega arith), old_at (s / 2 + 32) (omega arith))

    new_at : (s : ℕ) → s < 64 → slice_index (costs_from (roomy_base + HALF_STEP) stepped) s + MIDDLE ≡
        roomy_base + HALF_STEP + slice_index (in_order stepped) s
    new_at s l = omega (arith, costs_at (roomy_base + HALF_STEP) stepped s l, still_above s l)

    least_here : (s : ℕ) → s < 64 → slice_index (costs_from (roomy_base + HALF_STEP) stepped) s ≡
        min (slice_index (costs_from base lanes) (s / 2) + branch s)
        (slice_index (costs_from base lanes) (s / 2 + 32) + branch (s + 64))
    least_here s l =
        omega (arith, new_at s l, old_at (s / 2) (omega arith), old_at (s / 2 + 32) (omega arith), least s l)

    chosen_here : (s : ℕ) → s < 64 → decision_of word s ≡
        nat_lt (slice_index (costs_from base lanes) (s / 2 + 32) + branch (s + 64))
        (slice_index (costs_from base lanes) (s / 2) + branch s)
    chosen_here s l =
        let far = old_at (s / 2 + 32) (omega arith) in
        let near = old_at (s / 2) (omega arith) in
        chosen s l
        ∙ lt_moved roomy_base _ _ (slice_index (costs_from base lanes) (s / 2 + 32) + branch (s + 64) + MIDDLE)
        (slice_index (costs_from base lanes) (s / 2) + branch s + MIDDLE) (omega (arith, far)) (omega (arith, near))
        ∙ sym (lt_moved MIDDLE _ _ _ _ refl refl)

    pub one_more : Forward line w (i + 1) (costs_from (roomy_base + HALF_STEP) stepped) (slice_set words i word)
    one_more =
        more line w i word (costs_from base lanes) (costs_from (roomy_base + HALF_STEP) stepped) words
        (pair_costs_of line w i) before (branches_are line w i) below least_here chosen_here room

-- a step leads no lane further from the middle than by half of what it costs at most
module _
    (costs roomy stepped : List ℕ)
    (steps : ℕ)
    (within : IsWithin steps roomy)
    (below : (m : ℕ) → branch_by costs m ≤ STEP_COST)
    (least : (s : ℕ) → s < 64 → slice_index (in_order stepped) s + HALF_STEP ≡
    min (slice_index (in_order roomy) (s / 2) + branch_by costs s)
    (slice_index (in_order roomy) (s / 2 + 32) + branch_by costs (s + 64)))
  where
    low_lane : (s : ℕ) → s < 64 → slice_index (in_order roomy) s ≡ slice_index roomy (lane_of s)
    low_lane s l = in_order_at roomy s l

    least_at : (s : ℕ) → s < 64 → MIDDLE ≤ slice_index (in_order stepped) s + SPREAD + HALF_STEP * (steps + 1)
    least_at s l =
        omega (
          arith,
          least s l,
          low_lane (s / 2) (omega arith),
          low_lane (s / 2 + 32) (omega arith),
          within.least (lane_of (s / 2)) (lane_below (s / 2) (omega arith)),
          within.least (lane_of (s / 2 + 32)) (lane_below (s / 2 + 32) (omega arith)),
        )

    most_at : (s : ℕ) → s < 64 → slice_index (in_order stepped) s ≤ MIDDLE + SPREAD + HALF_STEP * (steps + 1)
    most_at s l =
        omega (
          arith,
          least s l,
          below s,
          low_lane (s / 2) (omega arith),
          within.most (lane_of (s / 2)) (lane_below (s / 2) (omega arith)),
        )

    pub further : IsWithin (steps + 1) stepped
    further = record {
      least = λ j l. omega (arith, lane_at stepped j l, least_at (lane_of j) (lane_below j l));
      most = λ j l. omega (arith, lane_at stepped j l, most_at (lane_of j) (lane_below j l));
    }

-- other costs that are the same, lane by lane
pub same_costs : (line : LineCode) (w : List ℤ) (i : ℕ) (old new words : List ℕ) → Forward line w i old words →
    ((s : ℕ) → s < 64 → slice_index new s ≡ slice_index old s) → Forward line w i new words
same_costs line w i old new words f same = record {
  costs = λ s l. same s l ∙ f.costs s l;
  bound = λ s l. omega (arith, same s l, f.bound s l);
  decided = f.decided;
  most = f.most;
}

-- what a lane is above the middle and the common number are what a path costs
pub base_bound : (line : LineCode) (w : List ℤ) (i base : ℕ) (lanes words : List ℕ) →
    Forward line w i (costs_from base lanes) words → base + slice_index (in_order lanes) 0 ≤ 4164713 + STEP_COST * i
base_bound line w i base lanes words f =
    omega (arith, f.bound 0 (omega arith), costs_at base lanes 0 (omega arith))

-- after six steps no cost is above them
start_low : (t : Bool) → cond t 41 29 < 64
start_low true = omega arith
start_low false = omega arith

start_zero : (line : LineCode) → start_of line (start_state line) ≡ 0
start_zero line = ap (λ t. cond t 0 4148329) (eq-eqb (start_state line) (start_state line) refl)

pub first_costs : (line : LineCode) (w : List ℤ) (words costs : List ℕ) → IsDecided line w 6 words costs →
    (s : ℕ) → s < 64 → slice_index costs s ≤ 3048
first_costs line w words costs d s l =
    omega (
      arith,
      d.least s l,
      start_zero line,
      six_steps (start_of line) (branch_of line w) 0 (λ k m n. d.most k m (omega arith)) (start_state line) s
          (start_low line.marks) l,
    )
