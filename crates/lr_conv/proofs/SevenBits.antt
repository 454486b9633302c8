-- Seven bits in a number, and in the list that a generator reads.
use Rattle.std.proofs.Common.{ap, refl, sym, subst, ◌∙◌, ◌≡◌, ℕ, ◌+◌, ◌-◌, ◌*◌, ◌/◌, ◌%◌, ◌^◌, ◌<◌, ◌≤◌, zero, suc}
use Rattle.std.proofs.Common.{Bool, true, false, nat_eq, ◌&&◌, List, [], ◌∷◌, ◌++◌, length, drop, get_or, arith, cond}
use Rattle.std.proofs.Common.{eqb, ⊎_elim}
use Rattle.std.specs.Prelude.{bit_and, count_ones, not}
use mathlib.Core.Bool.{beq}
use Rattle.std.proofs.lemmas.Bool.{eqb-true, eqb-false}
use Rattle.std.proofs.lemmas.List.{get_or-drop, get_or_append_left}
use Rattle.std.proofs.Math.Seq.{get_or-append_right}
use Rattle.std.specs.Int.{bit_at}
use Rattle.std.specs.List.{sum_by}
use Rattle.std.proofs.str.Laws.{order}
use mir.Val.{bool_byte}
use Rattle.lr_conv.specs.Convolution.{bit, earlier_bit, first_generator, second_generator, first_symbol}
use Rattle.lr_conv.specs.Convolution.{second_symbol, first_of_seven, second_of_seven, symbols}
use Rattle.lr_conv.specs.Encoder.{past_of}
use Rattle.lr_conv.specs.declared.line.LineCode.{LineCode}
use Rattle.lr_conv.specs.declared.line.TheConstants.{STANDARD}

-- ---- what is checked by computing
-- whether each number below n passes
unfoldable pub all_below : (ℕ → Bool) → ℕ → Bool
all_below p zero = true
all_below p (suc n) = p n && all_below p n

and_left : (a b : Bool) → (a && b) ≡ true → a ≡ true
and_left true b e = refl
and_left false b e = e

and_right : (a b : Bool) → (a && b) ≡ true → b ≡ true
and_right true b e = e
and_right false true e = refl
and_right false false e = e

pub all_below_at : (p : ℕ → Bool) (n k : ℕ) → all_below p n ≡ true → k < n → p k ≡ true
unfolding all_below
all_below_at p zero k e l = absurd (omega arith)
all_below_at p (suc n) k e l =
    ⊎_elim
    (λ (less : k < n). all_below_at p n k (and_right (p n) (all_below p n) e) less)
    (λ (more : n ≤ k). let same : n ≡ k = omega arith in
    subst (λ m. p m ≡ true) same (and_left (p n) (all_below p n) e))
    (order k n)

-- the parity of the ones that a mask takes from seven bits is that of the generator's sum
first_test : ℕ → Bool
first_test m = nat_eq (count_ones (bit_and m 79) % 2) (sum_by (bit_at m) first_generator % 2)

second_test : ℕ → Bool
second_test m = nat_eq (count_ones (bit_and m 109) % 2) (sum_by (bit_at m) second_generator % 2)

pub first_parity : (m : ℕ) → m < 128 → nat_eq (count_ones (bit_and m 79) % 2) 1 ≡ first_of_seven m
unfolding first_test all_below lib.Count.ones
first_parity m l = ap (λ x. nat_eq x 1) (eqb-true _ _ (all_below_at first_test 128 m refl l))

second_parity_is : (m : ℕ) → m < 128 → count_ones (bit_and m 109) % 2 ≡ sum_by (bit_at m) second_generator % 2
unfolding second_test all_below lib.Count.ones
second_parity_is m l = eqb-true _ _ (all_below_at second_test 128 m refl l)

of_even : (s : ℕ) (c : Bool) → s % 2 ≡ 0 → not (beq (nat_eq (s % 2) 1) c) ≡ nat_eq ((bit c + s) % 2) 1
of_even s false e = let f : (0 + s) % 2 ≡ 0 = omega arith in rw (e, f) refl
of_even s true e = let f : (1 + s) % 2 ≡ 1 = omega arith in rw (e, f) refl

of_odd : (s : ℕ) (c : Bool) → s % 2 ≡ 1 → not (beq (nat_eq (s % 2) 1) c) ≡ nat_eq ((bit c + s) % 2) 1
of_odd s false e = let f : (0 + s) % 2 ≡ 1 = omega arith in rw (e, f) refl
of_odd s true e = let f : (1 + s) % 2 ≡ 0 = omega arith in rw (e, f) refl

odd_or_even : (s : ℕ) (c : Bool) → not (beq (nat_eq (s % 2) 1) c) ≡ nat_eq ((bit c + s) % 2) 1
odd_or_even s c =
    ⊎_elim
    (λ (even : s % 2 < 1). of_even s c (omega arith))
    (λ (odd : 1 ≤ s % 2). of_odd s c (omega arith))
    (order (s % 2) 1)

pub second_parity : (line : LineCode) (m : ℕ) → m < 128
    → not (beq (nat_eq (count_ones (bit_and m 109) % 2) 1) line.inverted) ≡ second_of_seven line m
second_parity line m l =
    ap (λ x. not (beq (nat_eq x 1) line.inverted)) (second_parity_is m l)
    ∙ odd_or_even (sum_by (bit_at m) second_generator) line.inverted

-- the second symbol of a line code, by that of the standard's
of_both : (i : Bool) (s : ℕ) → nat_eq ((bit i + s) % 2) 1 ≡ cond i (nat_eq ((1 + s) % 2) 1)
    (not (nat_eq ((1 + s) % 2) 1))
of_both true s = refl
of_both false s =
    ⊎_elim
    (λ (even : s % 2 < 1). let e : (0 + s) % 2 ≡ 0 = omega arith in let f : (1 + s) % 2 ≡ 1 = omega arith in
    rw (e, f) refl)
    (λ (odd : 1 ≤ s % 2). let e : (0 + s) % 2 ≡ 1 = omega arith in let f : (1 + s) % 2 ≡ 0 = omega arith in
    rw (e, f) refl)
    (order (s % 2) 1)

pub second_of_line : (line : LineCode) (m : ℕ)
    → second_of_seven line m ≡ cond line.inverted (second_of_seven STANDARD m) (not (second_of_seven STANDARD m))
second_of_line line m = of_both line.inverted (sum_by (bit_at m) second_generator)

-- ---- a bit and its number
pub bit_below : (b : Bool) → bit b < 2
bit_below false = omega arith
bit_below true = omega arith

pub bit_same : (a b : Bool) → bit a ≡ bit b → a ≡ b
bit_same false false e = refl
bit_same false true e = cc
bit_same true false e = cc
bit_same true true e = refl

pub byte_is_bit : (b : Bool) → bool_byte b ≡ bit b
byte_is_bit false = refl
byte_is_bit true = refl

bit_cases : (m : ℕ) (t : Bool) → eqb m 1 ≡ t → m < 2 → bit t ≡ m
bit_cases m true e l = sym (eqb-true m 1 e)
bit_cases m false e l = let n : m ≡ 1 → ⊥ = eqb-false m 1 e in omega arith

pub bit_test : (m : ℕ) → m < 2 → bit (nat_eq m 1) ≡ m
bit_test m l = bit_cases m (eqb m 1) refl l

pub test_bit : (b : Bool) → nat_eq (bit b) 1 ≡ b
test_bit false = refl
test_bit true = refl

-- ---- one bit more
module _ (b : Bool) (t : List Bool) where
  -- it changes no earlier bit
  earlier_bit-more : (i places : ℕ) → i + 6 < length t → earlier_bit (t ++ b ∷ []) i places ≡ earlier_bit t i places
  earlier_bit-more i places l = ap bit (get_or_append_left t (b ∷ []) false (6 + i - places) (omega arith))

  first-more : (i : ℕ) → i + 6 < length t → first_symbol (t ++ b ∷ []) i ≡ first_symbol t i
  first-more i l = rw (
    earlier_bit-more i 0 l,
    earlier_bit-more i 1 l,
    earlier_bit-more i 2 l,
    earlier_bit-more i 3 l,
    earlier_bit-more i 6 l,
  ) refl

  second-more : (line : LineCode) (i : ℕ) → i + 6 < length t
      → second_symbol line (t ++ b ∷ []) i ≡ second_symbol line t i
  second-more line i l =
      rw (
        earlier_bit-more i 0 l,
        earlier_bit-more i 2 l,
        earlier_bit-more i 3 l,
        earlier_bit-more i 5 l,
        earlier_bit-more i 6 l,
      ) refl

  -- nor an earlier symbol
  pub symbols-more : (line : LineCode) (n : ℕ) → n + 6 ≤ length t → symbols line (t ++ b ∷ []) n ≡ symbols line t n
  symbols-more line zero l = refl
  symbols-more line (suc n) l =
      let e = symbols-more line n (omega arith) in
      let f = first-more n (omega arith) in
      let s = second-more line n (omega arith) in
      cc

  -- the last six bits and the new one make a number of seven bits
  module _ (state n : ℕ) (size : length t ≡ n + 6) (last : past_of state ≡ drop n t) where
    abbrev seven : ℕ
    seven = 2 * state + bit b

    newest : earlier_bit (t ++ b ∷ []) n 0 ≡ bit_at seven 0
    newest =
        let place : 6 + n - 0 - length t ≡ 0 = omega arith in
        let low = bit_below b in
        ap bit (get_or-append_right t (b ∷ []) (6 + n - 0) false (omega arith)
        ∙ ap (λ k. get_or (b ∷ []) k false) place) ∙ omega arith

    older : (places k : ℕ) → places + k ≡ 6 → k < 6
        → earlier_bit (t ++ b ∷ []) n places ≡ bit (get_or (past_of state) k false)
    older places k e l =
        let place : 6 + n - places ≡ n + k = omega arith in
        ap bit (get_or_append_left t (b ∷ []) false (6 + n - places) (omega arith)
        ∙ ap (λ p. get_or t p false) place ∙ sym (get_or-drop n t k false) ∙ ap (λ z. get_or z k false) (sym last))

    at_1 : earlier_bit (t ++ b ∷ []) n 1 ≡ bit_at seven 1
    at_1 = let low = bit_below b in older 1 5 refl (omega arith) ∙ bit_test _ (omega arith) ∙ omega arith

    at_2 : earlier_bit (t ++ b ∷ []) n 2 ≡ bit_at seven 2
    at_2 = let low = bit_below b in older 2 4 refl (omega arith) ∙ bit_test _ (omega arith) ∙ omega arith

    at_3 : earlier_bit (t ++ b ∷ []) n 3 ≡ bit_at seven 3
    at_3 = let low = bit_below b in older 3 3 refl (omega arith) ∙ bit_test _ (omega arith) ∙ omega arith

    at_5 : earlier_bit (t ++ b ∷ []) n 5 ≡ bit_at seven 5
    at_5 = let low = bit_below b in older 5 1 refl (omega arith) ∙ bit_test _ (omega arith) ∙ omega arith

    at_6 : earlier_bit (t ++ b ∷ []) n 6 ≡ bit_at seven 6
    at_6 = let low = bit_below b in older 6 0 refl (omega arith) ∙ bit_test _ (omega arith) ∙ omega arith

    pub first_is : first_symbol (t ++ b ∷ []) n ≡ first_of_seven seven
    first_is = rw (newest, at_1, at_2, at_3, at_6) refl

    pub second_is : (line : LineCode) → second_symbol line (t ++ b ∷ []) n ≡ second_of_seven line seven
    second_is line = rw (newest, at_2, at_3, at_5, at_6) refl

    -- the last six bits of all
    pub last_is : past_of (seven % 64) ≡ drop 1 (past_of state ++ b ∷ [])
    last_is =
        let low = bit_below b in
        let e5 : seven % 64 / 2 ^ 5 % 2 ≡ state / 2 ^ 4 % 2 = omega arith in
        let e4 : seven % 64 / 2 ^ 4 % 2 ≡ state / 2 ^ 3 % 2 = omega arith in
        let e3 : seven % 64 / 2 ^ 3 % 2 ≡ state / 2 ^ 2 % 2 = omega arith in
        let e2 : seven % 64 / 2 ^ 2 % 2 ≡ state / 2 ^ 1 % 2 = omega arith in
        let e1 : seven % 64 / 2 ^ 1 % 2 ≡ state / 2 ^ 0 % 2 = omega arith in
        let e0 : seven % 64 / 2 ^ 0 % 2 ≡ bit b = omega arith in
        let f0 = test_bit b in
        cc
