-- Eight steps back from a state, and their byte.
use Rattle.std.proofs.Common.{refl, ap, sym, ◌∙◌, ◌≡◌, ◌+◌, ◌*◌, ◌/◌, ◌%◌, ◌<◌, ◌++◌, ℕ, suc, Bool, List}
use Rattle.std.proofs.Common.{true, false, [], ◌∷◌, cond, length, reverse, arith, nat_eq}
use Rattle.std.specs.Prelude.{bit_xor, map}
use Rattle.std.specs.Int.Digits.{number_from_digits}
use Rattle.std.proofs.lemmas.Bool.{eqb-true}
use Rattle.lr_conv.specs.Convolution.{bit}
use Rattle.lr_conv.specs.Levels.{bits_of_levels, changes_of_levels, levels}
use Rattle.lr_conv.specs.declared.line.LineCode.{LineCode}
use Rattle.lr_conv.proofs.Lines.{length-bits_of_levels, levels_of_bits_of}
use Rattle.lr_conv.proofs.SevenBits.{all_below, all_below_at}
use Rattle.lr_trellis.specs.Trellis.{is_odd, read_back, state_before}
use Rattle.lr_trellis.specs.Words.{byte_of_levels, state_back}

-- ---- the byte of eight levels, checked by computing
-- the levels of a number, the oldest first
levels_list : ℕ → List Bool
levels_list n =
    is_odd (n / 128) ∷ is_odd (n / 64) ∷ is_odd (n / 32) ∷ is_odd (n / 16) ∷ is_odd (n / 8) ∷ is_odd (n / 4)
    ∷ is_odd (n / 2) ∷ is_odd n ∷ []

plain_test : ℕ → Bool
plain_test n = nat_eq (number_from_digits 2 (map bit (levels_list n))) n

marks_test : ℕ → Bool
marks_test n =
    nat_eq (number_from_digits 2 (map bit (changes_of_levels (is_odd (n / 256)) (levels_list (n % 256)))))
    (bit_xor (n % 256) (n % 256 / 2 + 128 * (n / 256)))

plain_is : (n : ℕ) → n < 256 → number_from_digits 2 (map bit (levels_list n)) ≡ n
unfolding plain_test levels_list all_below
plain_is n l = eqb-true _ _ (all_below_at plain_test 256 n refl l)

marks_is : (n : ℕ) → n < 512 → number_from_digits 2 (map bit (changes_of_levels (is_odd (n / 256))
    (levels_list (n % 256)))) ≡ bit_xor (n % 256) (n % 256 / 2 + 128 * (n / 256))
unfolding marks_test levels_list all_below
marks_is n l = eqb-true _ _ (all_below_at marks_test 512 n refl l)

marks_at : (n older : ℕ) → n < 256 → older < 2 → number_from_digits 2 (map bit (changes_of_levels (is_odd older)
    (levels_list n))) ≡ bit_xor n (n / 2 + 128 * older)
marks_at n older l o =
    let high : (256 * older + n) / 256 ≡ older = omega arith in
    let low : (256 * older + n) % 256 ≡ n = omega arith in
    let at = marks_is (256 * older + n) (omega arith) in
    rw (high, low) at at

by_line : (marks : Bool) (n older : ℕ) → n < 256 → older < 2 → number_from_digits 2 (map bit
    (cond marks (changes_of_levels (is_odd older) (levels_list n)) (levels_list n))) ≡
    cond marks (bit_xor n (n / 2 + 128 * older)) n
by_line false n older l o = plain_is n l
by_line true n older l o = marks_at n older l o

-- ---- the levels of the states before
step_32 : (t : Bool) (s n : ℕ) → s ≡ n / 4 → n < 256 → state_before t s % 32 ≡ n / 8
step_32 true s n e l = omega arith
step_32 false s n e l = omega arith

step_16 : (t : Bool) (s n : ℕ) → s % 32 ≡ n / 8 → state_before t s % 16 ≡ n / 16
step_16 true s n e = omega arith
step_16 false s n e = omega arith

step_8 : (t : Bool) (s n : ℕ) → s % 16 ≡ n / 16 → state_before t s % 8 ≡ n / 32
step_8 true s n e = omega arith
step_8 false s n e = omega arith

step_4 : (t : Bool) (s n : ℕ) → s % 8 ≡ n / 32 → state_before t s % 4 ≡ n / 64
step_4 true s n e = omega arith
step_4 false s n e = omega arith

step_2 : (t : Bool) (s n : ℕ) → s % 4 ≡ n / 64 → state_before t s % 2 ≡ n / 128
step_2 true s n e = omega arith
step_2 false s n e = omega arith

second_newest : (t : Bool) (s n m : ℕ) → n ≡ 4 * m + s % 4 → state_before t s % 2 ≡ n / 2 % 2
second_newest true s n m e = omega arith
second_newest false s n m e = omega arith

parity : (a b : ℕ) → a % 2 ≡ b % 2 → is_odd a ≡ is_odd b
parity a b e = ap (λ x. nat_eq x 1) e

same_eight : (a b c d e f g h a' b' c' d' e' f' g' h' : Bool) → a ≡ a' → b ≡ b' → c ≡ c' → d ≡ d' → e ≡ e' →
    f ≡ f' → g ≡ g' → h ≡ h' → a ∷ b ∷ c ∷ d ∷ e ∷ f ∷ g ∷ h ∷ [] ≡ a' ∷ b' ∷ c' ∷ d' ∷ e' ∷ f' ∷ g' ∷ h' ∷ []
same_eight a b c d e f g h a' b' c' d' e' f' g' h' p q r s t u v w = cc

-- the levels of a state and of the seven before it
levels_are : (s s1 two s3 s4 s5 s6 s7 n : ℕ) → n ≡ 4 * two + s % 4 → two < 64 → s1 % 2 ≡ n / 2 % 2 →
    s3 % 32 ≡ n / 8 → s4 % 16 ≡ n / 16 → s5 % 8 ≡ n / 32 → s6 % 4 ≡ n / 64 → s7 % 2 ≡ n / 128 →
    is_odd s7 ∷ is_odd s6 ∷ is_odd s5 ∷ is_odd s4 ∷ is_odd s3 ∷ is_odd two ∷ is_odd s1 ∷ is_odd s ∷ []
    ≡ levels_list n
unfolding levels_list
levels_are s s1 two s3 s4 s5 s6 s7 n e low e1 e3 e4 e5 e6 e7 =
    same_eight (is_odd s7) (is_odd s6) (is_odd s5) (is_odd s4) (is_odd s3) (is_odd two) (is_odd s1) (is_odd s)
    (is_odd (n / 128)) (is_odd (n / 64)) (is_odd (n / 32)) (is_odd (n / 16)) (is_odd (n / 8)) (is_odd (n / 4))
    (is_odd (n / 2)) (is_odd n)
    (parity s7 (n / 128) (omega arith)) (parity s6 (n / 64) (omega arith)) (parity s5 (n / 32) (omega arith))
    (parity s4 (n / 16) (omega arith)) (parity s3 (n / 8) (omega arith)) (parity two (n / 4) (omega arith))
    (parity s1 (n / 2) e1) (parity s n (omega arith))

pub still_below : (t : Bool) (s next : ℕ) → s < 64 → next ≡ state_before t s → next < 64
still_below true s next l e = omega arith
still_below false s next l e = omega arith

-- ---- the steps
module _ (older : ℕ → ℕ → Bool) where
  pub back_more : (first i j here next : ℕ) → i ≡ suc j → next ≡ state_before (older (first + j) here) here →
      state_back older first i here ≡ state_back older first j next
  back_more first i j here next e n =
      ap (λ k. state_back older first k here) e ∙ ap (state_back older first j) (sym n)

  before : ℕ → ℕ → ℕ
  before k s = state_before (older k s) s

  two_is : (first above s : ℕ) → above ≡ first + 6 →
      state_back older above 2 s ≡ before (first + 6) (before (first + 7) s)
  unfolding before
  two_is first above s e =
      let e0 : above + 0 ≡ first + 6 = omega arith in
      let e1 : above + 1 ≡ first + 7 = omega arith in
      ap (λ k. before (above + 0) (before k s)) e1 ∙ ap (λ k. before k (before (first + 7) s)) e0

  six_is : (first s : ℕ) → state_back older first 6 s ≡ before first (before (first + 1) (before (first + 2)
      (before (first + 3) (before (first + 4) (before (first + 5) s)))))
  unfolding before
  six_is first s =
      let e0 : first + 0 ≡ first = omega arith in
      ap (λ k. before k (before (first + 1) (before (first + 2) (before (first + 3) (before (first + 4)
      (before (first + 5) s)))))) e0

  read_one : (n m s next : ℕ) → n ≡ suc m → next ≡ before m s → read_back older n s ≡ is_odd s ∷ read_back older m next
  unfolding before
  read_one n m s next e f = ap (λ k. read_back older k s) e ∙ ap (λ t. is_odd s ∷ read_back older m t) (sym f)

  read_eight : (first top s s1 s2 s3 s4 s5 s6 s7 s8 : ℕ) → top ≡ first + 8 → s1 ≡ before (first + 7) s →
      s2 ≡ before (first + 6) s1 → s3 ≡ before (first + 5) s2 → s4 ≡ before (first + 4) s3 →
      s5 ≡ before (first + 3) s4 → s6 ≡ before (first + 2) s5 → s7 ≡ before (first + 1) s6 → s8 ≡ before first s7 →
      read_back older top s ≡ is_odd s ∷ is_odd s1 ∷ is_odd s2 ∷ is_odd s3 ∷ is_odd s4 ∷ is_odd s5 ∷ is_odd s6 ∷
      is_odd s7 ∷ read_back older first s8
  read_eight first top s s1 s2 s3 s4 s5 s6 s7 s8 e e1 e2 e3 e4 e5 e6 e7 e8 =
      read_one top (first + 7) s s1 (omega arith) e1
      ∙ ap (λ z. is_odd s ∷ z) (read_one (first + 7) (first + 6) s1 s2 (omega arith) e2
      ∙ ap (λ z. is_odd s1 ∷ z) (read_one (first + 6) (first + 5) s2 s3 (omega arith) e3
      ∙ ap (λ z. is_odd s2 ∷ z) (read_one (first + 5) (first + 4) s3 s4 (omega arith) e4
      ∙ ap (λ z. is_odd s3 ∷ z) (read_one (first + 4) (first + 3) s4 s5 (omega arith) e5
      ∙ ap (λ z. is_odd s4 ∷ z) (read_one (first + 3) (first + 2) s5 s6 (omega arith) e6
      ∙ ap (λ z. is_odd s5 ∷ z) (read_one (first + 2) (first + 1) s6 s7 (omega arith) e7
      ∙ ap (λ z. is_odd s6 ∷ z) (read_one (first + 1) first s7 s8 (omega arith) e8)))))))

  -- eight steps back read the bits of one byte
  pub eight_read : (line : LineCode) (first above top s two eight : ℕ) → above ≡ first + 6 → top ≡ first + 8 →
      two < 64 →
      two ≡ state_back older above 2 s → eight ≡ state_back older first 6 two → (e : List Bool) × (length e ≡ 8)
      × (byte_of_levels line (4 * two + s % 4) (eight % 2) ≡ number_from_digits 2 (map bit e))
      × (read_back older top s ≡ reverse (levels line (is_odd eight) e) ++ read_back older first eight)
  unfolding before
  eight_read line first above top s two eight at_two at_top low e2 e8 =
      let s1 = before (first + 7) s in
      let s3 = before (first + 5) two in
      let s4 = before (first + 4) s3 in
      let s5 = before (first + 3) s4 in
      let s6 = before (first + 2) s5 in
      let s7 = before (first + 1) s6 in
      let n = 4 * two + s % 4 in
      let is_two : two ≡ before (first + 6) s1 = e2 ∙ two_is first above s at_two in
      let is_eight : eight ≡ before first s7 = e8 ∙ six_is first two in
      let quarter : two ≡ n / 4 = omega arith in
      let r3 = step_32 (older (first + 5) two) two n quarter (omega arith) in
      let r4 = step_16 (older (first + 4) s3) s3 n r3 in
      let r5 = step_8 (older (first + 3) s4) s4 n r4 in
      let r6 = step_4 (older (first + 2) s5) s5 n r5 in
      let r7 = step_2 (older (first + 1) s6) s6 n r6 in
      let newer = second_newest (older (first + 7) s) s n two refl in
      let ys = is_odd s7 ∷ is_odd s6 ∷ is_odd s5 ∷ is_odd s4 ∷ is_odd s3 ∷ is_odd two ∷ is_odd s1 ∷ is_odd s ∷ [] in
      let same : ys ≡ levels_list n = levels_are s s1 two s3 s4 s5 s6 s7 n refl low newer r3 r4 r5 r6 r7 in
      let odd : is_odd (eight % 2) ≡ is_odd eight = parity (eight % 2) eight (omega arith) in (
        bits_of_levels line (is_odd eight) ys,
        length-bits_of_levels line (is_odd eight) ys,
        sym (ap (λ z. number_from_digits 2 (map bit (bits_of_levels line (is_odd eight) z))) same
            ∙ ap (λ o. number_from_digits 2 (map bit (bits_of_levels line o (levels_list n)))) (sym odd)
            ∙ by_line line.marks n (eight % 2) (omega arith) (omega arith)),
        read_eight first top s s1 two s3 s4 s5 s6 s7 eight at_top refl is_two refl refl refl refl refl is_eight
            ∙ ap (λ z. reverse z ++ read_back older first eight) (sym (levels_of_bits_of line (is_odd eight) ys)),
      )
