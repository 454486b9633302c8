-- A bound on the least costs: some state has kept all pins, and each state is six steps from it.
use Rattle.std.proofs.Common.{ap, ◌∙◌, ◌≡◌, ℕ, ℤ, ◌+◌, ◌-◌, ◌*◌, ◌/◌, ◌%◌, ◌<◌, ◌≤◌, ◌^◌, zero, suc}
use Rattle.std.proofs.Common.{Bool, true, false, cond, eqb, List, arith, ⊎_elim, slice_index}
use Rattle.std.specs.Prelude.{Option}
use Rattle.std.proofs.str.Laws.{order}
use Rattle.lr_conv.specs.Convolution.{bit}
use Rattle.lr_conv.specs.Levels.{bit_of_level, level_of}
use Rattle.lr_conv.specs.declared.line.LineCode.{LineCode}
use Rattle.lr_conv.proofs.SevenBits.{bit_below}
use Rattle.lr_trellis.specs.Trellis.{branch_of, is_odd, least_cost, start_of, start_state}
use Rattle.lr_trellis.specs.declared.costs.TheConstants.{STEP_COST}
use Rattle.lr_trellis.proofs.Strings.{same_start}
use Rattle.lr_pinned.specs.Steps.{pin_at, pin_cost, pinned_branch, IsPinDecided}
use Rattle.lr_pinned.proofs.Misses.{miss_most, pin_cost_of, wanted, wanted_kept}

start_most : (t : Bool) → cond t 0 4148329 ≤ 4148329
start_most true = omega arith
start_most false = omega arith

start_low_by : (m : Bool) → cond m 41 29 < 64
start_low_by true = omega arith
start_low_by false = omega arith

module _ (line : LineCode) (pins : List (Option Bool)) (w : List ℤ) (steps : ℕ)
    (most : (i m : ℕ) → i < steps → branch_of line w i m ≤ STEP_COST) where
  abbrev cost_at : ℕ → ℕ → ℕ
  cost_at i s = least_cost (start_of line) (pinned_branch line pins w) i s

  branch_bound : (i m : ℕ) → i < steps → pinned_branch line pins w i m ≤ 4148837
  unfolding pinned_branch
  branch_bound i m l =
      omega (arith, most i m l, miss_most (pin_at pins i) (bit_of_level line (is_odd (m / 2)) (is_odd m)))

  any_bound : (i s : ℕ) → i ≤ steps → cost_at i s ≤ 4148329 + 4148837 * i
  any_bound zero s l = omega (arith, start_most (eqb s (start_state line)))
  any_bound (suc i) s l = omega (arith, any_bound i (s / 2) (omega arith), branch_bound i s (omega arith))

  -- a step from p leads to s
  onto : (i p s b : ℕ) → s < 64 → (p ≡ s / 2 → b ≡ s) → (p ≡ s / 2 + 32 → b ≡ s + 64) → p < 64 → p % 32 ≡ s / 2 →
      cost_at (suc i) s ≤ cost_at i p + pinned_branch line pins w i b
  onto i p s b l left right low same =
      ⊎_elim
      (λ (lower : p < 32). let e : p ≡ s / 2 = omega arith in
      let a = ap (cost_at i) e in let f = ap (pinned_branch line pins w i) (left e) in omega arith)
      (λ (upper : 32 ≤ p). let e : p ≡ s / 2 + 32 = omega arith in
      let a = ap (cost_at i) e in let f = ap (pinned_branch line pins w i) (right e) in omega arith)
      (order p 32)

  from_state : (i p s : ℕ) → i < steps → p < 64 → s < 64 → p % 32 ≡ s / 2 → cost_at (suc i) s ≤ cost_at i p + 4148837
  from_state i p s l low_p low_s same =
      ⊎_elim
      (λ (lower : p < 32). let e : p ≡ s / 2 = omega arith in
      let a = ap (cost_at i) e in omega (arith, branch_bound i s l))
      (λ (upper : 32 ≤ p). let e : p ≡ s / 2 + 32 = omega arith in
      let a = ap (cost_at i) e in omega (arith, branch_bound i (s + 64) l))
      (order p 32)

  -- a state to which a path leads that has kept all pins
  record Kept (i : ℕ) : Type 0 where
    state : ℕ
    low : state < 64
    cheap : cost_at i state ≤ STEP_COST * i

  kept_on : (i : ℕ) → i < steps → Kept i → Kept (suc i)
  unfolding pinned_branch
  kept_on i l k =
      let t = k.state in
      let pin = pin_at pins i in
      let b = wanted pin in
      let level = level_of line (is_odd t) b in
      let small = bit_below level in
      let m = 2 * t + bit level in
      let free : pin_cost line pin m ≡ 0 = pin_cost_of line pin t b ∙ ap (λ x. 4148329 * x) (wanted_kept pin) in
      let low = k.low in
      let step = onto i t (m % 64) m (omega arith) (λ e. omega arith) (λ e. omega arith) low (omega arith) in
      record { state = m % 64; low = omega arith; cheap = omega (arith, step, free, most i m l, k.cheap) }

  kept_at : (i : ℕ) → i ≤ steps → Kept i
  kept_at zero l = record {
    state = start_state line;
    low = start_low_by line.marks;
    cheap = omega (arith, same_start (start_state line));
  }
  kept_at (suc i) l = kept_on i (omega arith) (kept_at i (omega arith))

  six_on : (j s : ℕ) → j + 6 ≤ steps → s < 64 →
      cost_at (suc (suc (suc (suc (suc (suc j)))))) s ≤ STEP_COST * j + 6 * 4148837
  six_on j s l low =
      let k = kept_at j (omega arith) in
      let t = k.state in
      let t_low = k.low in
      let a = from_state j t ((2 * t + s / 32) % 64) (omega arith) t_low (omega arith) (omega arith) in
      let b = from_state (suc j) ((2 * t + s / 32) % 64) ((4 * t + s / 16) % 64) (omega arith) (omega arith)
      (omega arith) (omega arith) in
      let c = from_state (suc (suc j)) ((4 * t + s / 16) % 64) ((8 * t + s / 8) % 64) (omega arith) (omega arith)
      (omega arith) (omega arith) in
      let d = from_state (suc (suc (suc j))) ((8 * t + s / 8) % 64) ((16 * t + s / 4) % 64) (omega arith)
      (omega arith) (omega arith) (omega arith) in
      let e = from_state (suc (suc (suc (suc j)))) ((16 * t + s / 4) % 64) ((32 * t + s / 2) % 64) (omega arith)
      (omega arith) (omega arith) (omega arith) in
      let f = from_state (suc (suc (suc (suc (suc j))))) ((32 * t + s / 2) % 64) s (omega arith) (omega arith) low
      (omega arith) in
      let g = k.cheap in
      omega arith

  costs_bound : (i s : ℕ) → i ≤ steps → s < 64 → cost_at i s ≤ 7 * 4148329 + STEP_COST * i
  costs_bound i s l low =
      ⊎_elim
      (λ (few : i < 6). omega (arith, any_bound i s l))
      (λ (many : 6 ≤ i).
      let at : suc (suc (suc (suc (suc (suc (i - 6)))))) ≡ i = omega arith in
      let e = ap (λ k. cost_at k s) at in omega (arith, six_on (i - 6) s (omega arith) low))
      (order i 6)

pub costs_fit : (line : LineCode) (pins : List (Option Bool)) (w : List ℤ) (steps : ℕ) (words costs : List ℕ) →
    steps ≤ 8165 → IsPinDecided line pins w steps words costs → (s : ℕ) → s < 64 →
    slice_index costs s + STEP_COST + 4148329 < 2 ^ 32
costs_fit line pins w steps words costs few d s l =
    omega (arith, d.least s l, costs_bound line pins w steps d.most steps s (omega arith) l)
