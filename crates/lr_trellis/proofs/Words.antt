-- The four costs of a step, the pairs of symbols of its butterflies, and the word of its decisions.
use Rattle.std.proofs.Common.{ap, refl, sym, cond, ◌∙◌, ◌≡◌, ℕ, ℤ, ◌+◌, ◌-◌, ◌*◌, ◌/◌, ◌%◌, ◌^◌, ◌<◌, ◌≤◌, zero, suc}
use Rattle.std.proofs.Common.{Bool, true, false, nat_eq, List, [], ◌∷◌, get_or, arith, pow-suc, add-one}
use Rattle.std.specs.Prelude.{bit_or, not}
use Rattle.std.specs.Int.{bit_at}
use Rattle.std.proofs.lemmas.Bool.{eqb-true}
use Rattle.std.proofs.lemmas.Nat.{or_comm, or_shifted, pow_pos}
use Rattle.std.proofs.lemmas.Nat.Bits.{bit_at_cat_high}
use Rattle.std.proofs.Math.Nat.{pow-le-pow_right, mod-eq_of_lt}
use Rattle.lr_conv.specs.Convolution.{bit, first_of_seven, second_of_seven}
use Rattle.lr_conv.specs.declared.line.TheConstants.{STANDARD}
use Rattle.lr_conv.specs.declared.line.LineCode.{LineCode}
use Rattle.lr_conv.proofs.SevenBits.{all_below, all_below_at, bit_below, second_of_line}
use Rattle.lr_trellis.specs.Path.{symbol_cost}
use Rattle.lr_trellis.specs.Trellis.{is_odd, state_before}
use Rattle.lr_trellis.specs.Words.{pair_of, branch_by}
use Rattle.lr_trellis.specs.declared.costs.TheConstants.{STEP_COST}

-- ---- the pairs of a butterfly, checked by computing
abbrev pairs : List ℕ
pairs = 1 ∷ 3 ∷ 2 ∷ 0 ∷ 2 ∷ 0 ∷ 1 ∷ 3 ∷ 1 ∷ 3 ∷ 2 ∷ 0 ∷ 2 ∷ 0 ∷ 1 ∷ 3 ∷ 0 ∷ 2 ∷ 3 ∷ 1 ∷ 3 ∷ 1 ∷ 0 ∷ 2 ∷ 0 ∷ 2 ∷ 3 ∷ 1 ∷
    3 ∷ 1 ∷ 0 ∷ 2 ∷ []

table_test : ℕ → Bool
table_test j = nat_eq (get_or pairs j 0) (pair_of (2 * j))

next_test : ℕ → Bool
next_test j = nat_eq (3 - pair_of (2 * j)) (pair_of (2 * j + 1))

upper_test : ℕ → Bool
upper_test j = nat_eq (3 - pair_of (2 * j)) (pair_of (2 * j + 64))

both_test : ℕ → Bool
both_test j = nat_eq (pair_of (2 * j)) (pair_of (2 * j + 65))

pub table_is : (j : ℕ) → j < 32 → get_or pairs j 0 ≡ pair_of (2 * j)
unfolding table_test all_below
table_is j l = eqb-true _ _ (all_below_at table_test 32 j refl l)

pub next_is : (j : ℕ) → j < 32 → 3 - pair_of (2 * j) ≡ pair_of (2 * j + 1)
unfolding next_test all_below
next_is j l = eqb-true _ _ (all_below_at next_test 32 j refl l)

pub upper_is : (j : ℕ) → j < 32 → 3 - pair_of (2 * j) ≡ pair_of (2 * j + 64)
unfolding upper_test all_below
upper_is j l = eqb-true _ _ (all_below_at upper_test 32 j refl l)

pub both_is : (j : ℕ) → j < 32 → pair_of (2 * j) ≡ pair_of (2 * j + 65)
unfolding both_test all_below
both_is j l = eqb-true _ _ (all_below_at both_test 32 j refl l)

pub pair_below : (m : ℕ) → pair_of m < 4
pair_below m = let f = bit_below (first_of_seven m) in let s = bit_below (second_of_seven STANDARD m) in omega arith

-- ---- the four costs
four : (z o y p : ℕ) (a b i : Bool) (v w : ℤ) → z ≡ symbol_cost false v → o ≡ symbol_cost true v →
    y ≡ symbol_cost (not i) w → p ≡ symbol_cost i w → get_or ((z + y) ∷ (z + p) ∷ (o + y) ∷ (o + p) ∷ [])
    (2 * bit a + bit b) 0 ≡ symbol_cost a v + symbol_cost (cond i b (not b)) w
four z o y p false false false v w ez eo ey ep = omega arith
four z o y p false true false v w ez eo ey ep = omega arith
four z o y p true false false v w ez eo ey ep = omega arith
four z o y p true true false v w ez eo ey ep = omega arith
four z o y p false false true v w ez eo ey ep = omega arith
four z o y p false true true v w ez eo ey ep = omega arith
four z o y p true false true v w ez eo ey ep = omega arith
four z o y p true true true v w ez eo ey ep = omega arith

pub four_costs : (line : LineCode) (z o y p m : ℕ) (v w : ℤ) → z ≡ symbol_cost false v → o ≡ symbol_cost true v →
    y ≡ symbol_cost (not line.inverted) w → p ≡ symbol_cost line.inverted w →
    branch_by ((z + y) ∷ (z + p) ∷ (o + y) ∷ (o + p) ∷ []) m ≡
    symbol_cost (first_of_seven m) v + symbol_cost (second_of_seven line m) w
unfolding branch_by
four_costs line z o y p m v w ez eo ey ep =
    four z o y p (first_of_seven m) (second_of_seven STANDARD m) line.inverted v w ez eo ey ep
    ∙ ap (λ b. symbol_cost (first_of_seven m) v + symbol_cost b w) (sym (second_of_line line m))

four_below : (z o y p k : ℕ) → z + o ≡ 254 → y + p ≡ 254 → k < 4 →
    get_or ((z + y) ∷ (z + p) ∷ (o + y) ∷ (o + p) ∷ []) k 0 ≤ STEP_COST
four_below z o y p zero e f l = omega arith
four_below z o y p (suc zero) e f l = omega arith
four_below z o y p (suc (suc zero)) e f l = omega arith
four_below z o y p (suc (suc (suc zero))) e f l = omega arith
four_below z o y p (suc (suc (suc (suc k)))) e f l = absurd (omega arith)

pub four_costs_below : (z o y p m : ℕ) → z + o ≡ 254 → y + p ≡ 254 →
    branch_by ((z + y) ∷ (z + p) ∷ (o + y) ∷ (o + p) ∷ []) m ≤ STEP_COST
unfolding branch_by
four_costs_below z o y p m e f = four_below z o y p (pair_of m) e f (pair_below m)

-- ---- a word of decisions
shifted_small : (r p : ℕ) → r < 2 → p ≤ 2 ^ 32 → r * p < 2 ^ 64
shifted_small zero p low top = omega arith
shifted_small (suc zero) p low top = omega arith
shifted_small (suc (suc r)) p low top = absurd (omega arith)

-- a bit above those of a word
pub with_bit_is : (word place r : ℕ) → place < 32 → word < 2 ^ place → r < 2 →
    bit_or word (r * 2 ^ place % 2 ^ 64) ≡ r * 2 ^ place + word
with_bit_is word place r l small low =
    let top : 2 ^ place ≤ 2 ^ 32 = pow-le-pow_right {n = 2} (omega arith) {i = place} {j = 32} (omega arith) in
    let fits : r * 2 ^ place % 2 ^ 64 ≡ r * 2 ^ place =
    mod-eq_of_lt (shifted_small r (2 ^ place) low top) in
    ap (bit_or word) fits ∙ or_comm word (r * 2 ^ place) ∙ or_shifted r place word small

pub with_bit_small : (word place r : ℕ) → word < 2 ^ place → r < 2 → r * 2 ^ place + word < 2 ^ (place + 1)
with_bit_small word place zero small low =
    omega (arith, pow-suc 2 place, add-one place, pow_pos place, ap (λ k. 2 ^ k) (add-one place))
with_bit_small word place (suc zero) small low = omega (arith, pow-suc 2 place, ap (λ k. 2 ^ k) (add-one place))
with_bit_small word place (suc (suc r)) small low = absurd (omega arith)

pub with_bit_at : (word place r : ℕ) → word < 2 ^ place → r < 2 → bit_at (r * 2 ^ place + word) place ≡ r
with_bit_at word place r small low =
    let same : place - place ≡ 0 = omega arith in
    bit_at_cat_high r place word place small (omega arith) ∙ ap (bit_at r) same ∙ omega arith

-- two halves of a word
pub joined_is : (evens odds : ℕ) → evens < 2 ^ 32 → odds < 2 ^ 32 →
    bit_or evens (odds * 2 ^ 32 % 2 ^ 64) ≡ odds * 2 ^ 32 + evens
joined_is evens odds small low =
    let fits : odds * 2 ^ 32 % 2 ^ 64 ≡ odds * 2 ^ 32 = omega arith in
    ap (bit_or evens) fits ∙ or_comm evens (odds * 2 ^ 32) ∙ or_shifted odds 32 evens small

pub joined_high : (evens odds k : ℕ) → evens < 2 ^ 32 → bit_at (odds * 2 ^ 32 + evens) (k + 32) ≡ bit_at odds k
joined_high evens odds k small =
    let same : k + 32 - 32 ≡ k = omega arith in
    bit_at_cat_high odds 32 evens (k + 32) small (omega arith) ∙ ap (bit_at odds) same

-- the state before, by a bit of the word
pub state_before_is : (x s : ℕ) → x < 2 → s / 2 + 32 * x ≡ state_before (nat_eq x 1) s
state_before_is zero s l = omega arith
state_before_is (suc zero) s l = omega arith
state_before_is (suc (suc x)) s l = absurd (omega arith)

pub state_before_low : (t : Bool) (s : ℕ) → s < 64 → state_before t s < 64
state_before_low true s l = omega arith
state_before_low false s l = omega arith

-- the level before a state's newest one is that of the state before it
pub odd_before : (t : Bool) (s : ℕ) → is_odd (state_before t s) ≡ is_odd (s / 2)
odd_before false s = refl
odd_before true s = let e : (s / 2 + 32) % 2 ≡ s / 2 % 2 = omega arith in ap (λ x. nat_eq x 1) e
