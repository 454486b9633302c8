-- What a step costs sixteen states, from what its two symbols cost.
use Rattle.std.proofs.Common.{arith, ap, refl, sym, ◌∙◌, ◌≡◌, ◌+◌, ◌-◌, ◌*◌, ◌%◌, ◌^◌, ◌<◌, ◌≤◌, zero, suc, ℕ, ℤ, pos}
use Rattle.std.proofs.Common.{List, [], ◌∷◌, length, get_or, slice_index, slice_index_or, true, false}
use Rattle.std.proofs.lemmas.Simd.{get_or-zip2}
use Rattle.std.specs.Prelude.{not}
use lib.Lanes.{zip2}
use Rattle.lr_conv.specs.Convolution.{first_of_seven, second_of_seven}
use Rattle.lr_conv.specs.declared.line.LineCode.{LineCode}
use Rattle.lr_trellis.specs.Path.{symbol_cost}
use Rattle.lr_trellis.specs.Trellis.{branch_of}
use Rattle.lr_trellis.specs.Words.{branch_by, pair_of}
use Rattle.lr_trellis.proofs.Words.{four_costs, four_costs_below, next_is, pair_below}
use Rattle.lr_lanes.specs.Lanes.{HasCosts, lowered, pair_costs_of, state_of}
use Rattle.lr_lanes.specs.declared.lanes.TheConstants.{HALF_STEP, STEP_COST}

two_lowered : (a b x y : ℕ) → a ≡ lowered 127 x → b ≡ lowered 127 y → (a + b) % 2 ^ 16 ≡ lowered HALF_STEP (x + y)
two_lowered a b x y e f = omega arith

-- a pair and its complement
pair_sum : (z o y p k : ℕ) → z + o ≡ 254 → y + p ≡ 254 → k < 4 →
    get_or ((z + y) ∷ (z + p) ∷ (o + y) ∷ (o + p) ∷ []) k 0
    + get_or ((z + y) ∷ (z + p) ∷ (o + y) ∷ (o + p) ∷ []) (3 - k) 0 ≡ STEP_COST
pair_sum z o y p zero e f l = omega arith
pair_sum z o y p (suc zero) e f l = omega arith
pair_sum z o y p (suc (suc zero)) e f l = omega arith
pair_sum z o y p (suc (suc (suc zero))) e f l = omega arith
pair_sum z o y p (suc (suc (suc (suc k)))) e f l = absurd (omega arith)

pub branches_are : (line : LineCode) (window : List ℤ) (step m : ℕ) →
    branch_by (pair_costs_of line window step) m ≡ branch_of line window step m
unfolding pair_costs_of branch_of
branches_are line window step m =
    four_costs line _ _ _ _ m (slice_index_or window (2 * step) (pos 0)) (slice_index_or window (2 * step + 1) (pos 0))
    refl refl refl refl

module _ (line : LineCode) (v w : ℤ) (xs ys : List ℕ) (size : length xs ≡ 16) (also : length ys ≡ 16)
    (firsts : (j : ℕ) → j < 16 → slice_index xs j ≡ lowered 127 (symbol_cost (first_of_seven (2 * state_of j)) v))
    (seconds : (j : ℕ) → j < 16 →
    slice_index ys j ≡ lowered 127 (symbol_cost (second_of_seven line (2 * state_of j)) w))
    (here_sum : symbol_cost false v + symbol_cost true v ≡ 254)
    (next_sum : symbol_cost (not line.inverted) w + symbol_cost line.inverted w ≡ 254) where
  abbrev pub pairs : List ℕ
  pairs =
      (symbol_cost false v + symbol_cost (not line.inverted) w) ∷ (symbol_cost false v + symbol_cost line.inverted w) ∷
      (symbol_cost true v + symbol_cost (not line.inverted) w) ∷ (symbol_cost true v + symbol_cost line.inverted w) ∷ []

  at : (j : ℕ) → j < 16 → get_or (zip2 (λ a b. (a + b) % 2 ^ 16) xs ys) j 0 ≡
      lowered HALF_STEP (branch_by pairs (2 * state_of j))
  at j l =
      get_or-zip2 (λ a b. (a + b) % 2 ^ 16) xs ys j 0 0 0 (omega arith) (omega arith)
      ∙ two_lowered (get_or xs j 0) (get_or ys j 0) (symbol_cost (first_of_seven (2 * state_of j)) v)
      (symbol_cost (second_of_seven line (2 * state_of j)) w) (firsts j l) (seconds j l)
      ∙ ap (lowered HALF_STEP) (sym (four_costs line _ _ _ _ (2 * state_of j) v w refl refl refl refl))

  most : (m : ℕ) → branch_by pairs m ≤ STEP_COST
  most m =
      four_costs_below (symbol_cost false v) (symbol_cost true v) (symbol_cost (not line.inverted) w)
      (symbol_cost line.inverted w) m here_sum next_sum

  sums : (k : ℕ) → k < 32 → branch_by pairs (2 * k) + branch_by pairs (2 * k + 1) ≡ STEP_COST
  unfolding branch_by
  sums k l =
      ap (λ q. get_or pairs (pair_of (2 * k)) 0 + get_or pairs q 0) (sym (next_is k l))
      ∙ pair_sum (symbol_cost false v) (symbol_cost true v) (symbol_cost (not line.inverted) w)
      (symbol_cost line.inverted w) (pair_of (2 * k)) here_sum next_sum (pair_below (2 * k))

  pub held : HasCosts (zip2 (λ a b. (a + b) % 2 ^ 16) xs ys) pairs
  held = record { most = most; sums = sums; held = at }
