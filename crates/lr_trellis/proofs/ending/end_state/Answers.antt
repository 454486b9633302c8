use Rattle.std.proofs.Common.{ap, refl, sym, ◌∙◌, ◌≡◌, ◌+◌, ◌-◌, ◌*◌, ◌<◌, ◌≤◌, ◌^◌, ℕ, Bool, true, false, cond, List}
use Rattle.std.proofs.Common.{get_or, arith, Fits, w32}
use Rattle.std.proofs.lemmas.Bool.{lt-ltb, le-ltb}
use Rattle.lr_conv.specs.declared.line.LineCode.{LineCode}
use Rattle.lr_trellis.specs.Trellis.{end_before, end_seven}
use Rattle.lr_trellis.specs.Words.{branch_by, pair_of, end_cost, last_one}
use Rattle.lr_trellis.specs.declared.costs.TheConstants.{STEP_COST}
use Rattle.lr_trellis.proofs.StringParts.{end_before_low}
use Rattle.lr_trellis.proofs.ending.end_state.Goals as goal

near_by : (m : Bool) → pair_of (2 * cond m 2 3) ≡ pair_of (cond m 4 6)
near_by false = refl
near_by true = refl

far_by : (m : Bool) → 3 - pair_of (2 * cond m 2 3) ≡ pair_of (cond m 123 70)
far_by false = refl
far_by true = refl

-- the two costs of the last step
module _ (line : LineCode) (last : List ℕ) (low symbols : ℕ) (is_low : low ≡ end_before line false)
    (e : symbols ≡ pair_of (2 * low)) where
  near : get_or last symbols 0 ≡ branch_by last (end_seven line false)
  unfolding branch_by
  near = ap (λ k. get_or last k 0) (e ∙ ap (λ s. pair_of (2 * s)) is_low ∙ near_by line.marks)

  far : get_or last (3 - symbols) 0 ≡ branch_by last (end_seven line true)
  unfolding branch_by
  far = ap (λ k. get_or last k 0) (ap (λ k. 3 - k) (e ∙ ap (λ s. pair_of (2 * s)) is_low) ∙ far_by line.marks)

fits_sum : (a b d : ℕ) → a + STEP_COST < 2 ^ 32 → b ≡ d → d ≤ STEP_COST → Fits w32 (a + b)
fits_sum a b d l e m = record { fits = omega arith }

-- which end it is
high_is : (line : LineCode) (costs last : List ℕ) (low high : ℕ) → high ≡ end_before line true →
    end_cost line costs last true < end_cost line costs last false → high ≡ end_before line (last_one line costs last)
high_is line costs last low high e l = e ∙ ap (end_before line) (sym (lt-ltb _ _ l))

low_is : (line : LineCode) (costs last : List ℕ) (low high : ℕ) → low ≡ end_before line false →
    end_cost line costs last false ≤ end_cost line costs last true → low ≡ end_before line (last_one line costs last)
low_is line costs last low high e l = e ∙ ap (end_before line) (sym (le-ltb _ _ l))

pub overflow_add-costs : goal.overflow_add-costs
overflow_add-costs c =
    let e = c.ends-low.ensures in
    fits_sum _ _ _ (c.requires.costs c.ends-low.result.1 (omega (arith, e.high, end_before_low c.args.line true)))
    (far c.args.line c.args.last.now c.ends-low.result.0 c.pair-symbols.result e.low c.pair-symbols.ensures.value)
    (c.requires.last _)

pub overflow_add-costs-2 : goal.overflow_add-costs-2
overflow_add-costs-2 c =
    let e = c.ends-low.ensures in
    fits_sum _ _ _ (c.requires.costs c.ends-low.result.0 (omega (arith, e.low, end_before_low c.args.line false)))
    (near c.args.line c.args.last.now c.ends-low.result.0 c.pair-symbols.result e.low c.pair-symbols.ensures.value)
    (c.requires.last _)

-- the two sums are what the paths to the two ends cost
module _ (line : LineCode) (costs last : List ℕ) (low high symbols : ℕ) (is_low : low ≡ end_before line false)
    (is_high : high ≡ end_before line true) (e : symbols ≡ pair_of (2 * low)) where
  far_cost : get_or costs high 0 + get_or last (3 - symbols) 0 ≡ end_cost line costs last true
  far_cost =
      let f = far line last low symbols is_low e in ap (λ k. get_or costs k 0 + get_or last (3 - symbols) 0) is_high
      ∙ ap (λ k. get_or costs (end_before line true) 0 + k) f

  near_cost : get_or costs low 0 + get_or last symbols 0 ≡ end_cost line costs last false
  near_cost =
      let f = near line last low symbols is_low e in ap (λ k. get_or costs k 0 + get_or last symbols 0) is_low
      ∙ ap (λ k. get_or costs (end_before line false) 0 + k) f

pub returns-then-costs-high : goal.returns-then-costs-high
returns-then-costs-high c =
    let e = c.ends-low.ensures in
    let f = far_cost c.args.line c.args.costs.now c.args.last.now c.ends-low.result.0 c.ends-low.result.1
    c.pair-symbols.result e.low e.high c.pair-symbols.ensures.value in
    let n = near_cost c.args.line c.args.costs.now c.args.last.now c.ends-low.result.0 c.ends-low.result.1
    c.pair-symbols.result e.low e.high c.pair-symbols.ensures.value in
    high_is c.args.line c.args.costs.now c.args.last.now c.ends-low.result.0 c.ends-low.result.1 e.high
    (omega (arith, f, n, c.if-costs-high.true))

pub returns-else-costs-high : goal.returns-else-costs-high
returns-else-costs-high c =
    let e = c.ends-low.ensures in
    let f = far_cost c.args.line c.args.costs.now c.args.last.now c.ends-low.result.0 c.ends-low.result.1
    c.pair-symbols.result e.low e.high c.pair-symbols.ensures.value in
    let n = near_cost c.args.line c.args.costs.now c.args.last.now c.ends-low.result.0 c.ends-low.result.1
    c.pair-symbols.result e.low e.high c.pair-symbols.ensures.value in
    low_is c.args.line c.args.costs.now c.args.last.now c.ends-low.result.0 c.ends-low.result.1 e.low
    (omega (arith, f, n, c.if-costs-high.false))
