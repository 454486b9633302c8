-- The remainder of a division of bit polynomials is the only one, so the checksum is the one that the standard defines.
use Rattle.std.proofs.Common.{
  ◌≡◌,
  ℕ,
  zero,
  suc,
  ◌+◌,
  ◌-◌,
  ◌*◌,
  ◌/◌,
  ◌%◌,
  ◌^◌,
  ◌<◌,
  ◌≤◌,
  List,
  [],
  ◌∷◌,
  length,
  All,
  refl,
  sym,
  ap,
  ◌∙◌,
  arith,
  inl,
  inr,
  zero-add,
}
use Rattle.std.proofs.Math.Nat.{pow-suc}
use Rattle.std.specs.Int.{bit_at}
use Rattle.std.specs.Int.Bits.{bit_xor, xor_assoc, xor_comm, xor_self, xor_zero_r, xor_lt}
use Rattle.std.specs.Int.Digits.{number_from_digits}
use Rattle.std.proofs.lemmas.Bool.{cases_lt}
use Rattle.std.proofs.lemmas.Int.Digits.{number_lt}
use Rattle.std.proofs.lemmas.List.Elements.{recursion_from_All}
use Rattle.std.proofs.lemmas.Nat.{pow_pos, pow-add, pow_below, shl_below, shr_below, shr_split, mod_below}
use Rattle.std.proofs.lemmas.Nat.Bits.{bit_at_xor, bit_at_above}
use Rattle.lr_bits.specs.Crc.{
  divisor,
  remainder_of,
  dividend_of,
  crc_of,
  multiple_of,
  IsCrcRemainder,
  CrcIsTheRemainder,
}
use Rattle.lr_bits.proofs.CrcLemmas.{
  bit_cases,
  bit_at-shift,
  remainder_of-set,
  remainder_of-clear,
  remainder_of-none,
  remainder_of-sum,
  remainder_of-short,
}

divisor-lt : (k : ℕ) → divisor * 2 ^ k < 2 ^ (17 + k)
divisor-lt k = shl_below divisor 17 k (omega arith)

bit_at-divisor : (k : ℕ) → bit_at (divisor * 2 ^ k) (16 + k) ≡ 1
bit_at-divisor k = rw (zero-add k) at (bit_at-shift divisor k 0)

remainder_of-divisor : (n k : ℕ) → k < n → remainder_of n (divisor * 2 ^ k) ≡ 0
remainder_of-divisor zero k below = absurd (omega arith)
remainder_of-divisor (suc n) k below =
    elim (cases_lt k n) [
      | inl less ↦
          let grown : 2 ^ (17 + k) ≤ 2 ^ (16 + n) =
          elim (cases_lt (17 + k) (16 + n)) [
            | inl lt ↦ omega (arith, pow_below (17 + k) (16 + n) lt)
            | inr ge ↦ let same : 17 + k ≡ 16 + n = omega arith in rw same (omega arith)
          ] in
          remainder_of-clear n (divisor * 2 ^ k)
          (bit_at_above (divisor * 2 ^ k) (16 + n) (16 + n) (omega (arith, divisor-lt k)) (omega arith))
          ∙ remainder_of-divisor n k less
      | inr more ↦
          let same : k ≡ n = omega arith in
          rw same (remainder_of-set n (divisor * 2 ^ n) (bit_at-divisor n)
          ∙ ap (remainder_of n) (xor_self (divisor * 2 ^ n)) ∙ remainder_of-short n 0 (pow_pos 16))
    ]

-- a number above each of these shifts
room_of : List ℕ → ℕ
room_of [] = 0
room_of (k ∷ ks) = suc k + room_of ks

remainder_of-multiple : (shifts : List ℕ) (n : ℕ) → room_of shifts ≤ n → remainder_of n (multiple_of shifts) ≡ 0
unfolding room_of
remainder_of-multiple [] n room = remainder_of-short n 0 (pow_pos 16)
remainder_of-multiple (k ∷ ks) n room =
    remainder_of-sum n (divisor * 2 ^ k) (multiple_of ks)
    ∙ rw (remainder_of-divisor n k (omega arith), remainder_of-multiple ks n (omega arith)) refl

-- Further places above the highest don't matter.
remainder_of-more : (e k p : ℕ) → p < 2 ^ (16 + k) → remainder_of (e + k) p ≡ remainder_of k p
remainder_of-more zero k p short = rw (zero-add k) refl
remainder_of-more (suc e) k p short =
    let turn : suc e + k ≡ suc (e + k) = omega arith in
    rw turn (remainder_of-clear (e + k) p (bit_at_above p (16 + k) (16 + (e + k)) short (omega arith))
    ∙ remainder_of-more e k p short)

-- a polynomial whose highest place is clear is shorter
lt-clear : (q m : ℕ) → q < 2 ^ suc m → bit_at q m ≡ 0 → q < 2 ^ m
lt-clear q m short clear =
    let more : suc m ≡ 1 + m = omega arith in
    let none : q / 2 ^ m ≡ 0 = omega (arith, shr_below q 1 m (rw more at short), clear) in
    let low : 0 * 2 ^ m + q % 2 ^ m ≡ q = rw none at (shr_split q m) in
    omega (arith, low, mod_below q (2 ^ m) (pow_pos m))

remainder_of-lt : (k p : ℕ) → p < 2 ^ (16 + k) → remainder_of k p < 2 ^ 16
remainder_of-lt zero p short = rw (remainder_of-none p) short
remainder_of-lt (suc k) p short =
    let more : 16 + suc k ≡ suc (16 + k) = omega arith in
    let wide : p < 2 ^ suc (16 + k) = rw more at short in
    elim (bit_cases p (16 + k)) [
      | inl clear ↦ rw (remainder_of-clear k p clear) (remainder_of-lt k p (lt-clear p (16 + k) wide clear))
      | inr set ↦
          let cleared = bit_xor p (divisor * 2 ^ k) in
          let shift : 17 + k ≡ suc (16 + k) = omega arith in
          let fits : cleared < 2 ^ suc (16 + k) =
          xor_lt (suc (16 + k)) p (divisor * 2 ^ k) wide (rw shift at (divisor-lt k)) in
          let clear : bit_at cleared (16 + k) ≡ 0 =
          omega (arith, bit_at_xor p (divisor * 2 ^ k) (16 + k), bit_at-divisor k, set) in
          rw (remainder_of-set k p set) (remainder_of-lt k cleared (lt-clear cleared (16 + k) fits clear))
    ]

-- What the division takes away is a multiple of the divisor.
remainder_of-rest : (k p : ℕ) → (shifts : List ℕ) × (p ≡ bit_xor (multiple_of shifts) (remainder_of k p))
remainder_of-rest zero p = ([], sym (remainder_of-none p))
remainder_of-rest (suc k) p =
    elim (bit_cases p (16 + k)) [
      | inl clear ↦
          let rest = remainder_of-rest k p in
          (rest.0, rest.1 ∙ sym (ap (bit_xor (multiple_of rest.0)) (remainder_of-clear k p clear)))
      | inr set ↦
          let d = divisor * 2 ^ k in
          let rest = remainder_of-rest k (bit_xor p d) in
          let back : p ≡ bit_xor d (bit_xor p d) =
          sym (xor_comm d (bit_xor p d) ∙ xor_assoc p d d ∙ ap (bit_xor p) (xor_self d) ∙ xor_zero_r p) in (
            k ∷ rest.0,
            back ∙ ap (bit_xor d) rest.1 ∙ sym (xor_assoc d (multiple_of rest.0) (remainder_of k (bit_xor p d)))
                ∙ sym (ap (bit_xor (multiple_of (k ∷ rest.0))) (remainder_of-set k p set)),
          )
    ]

-- There is one remainder.
remainder_of-only : (k p rest : ℕ) → p < 2 ^ (16 + k) → IsCrcRemainder p rest → rest ≡ remainder_of k p
remainder_of-only k p rest short is =
    let shifts = is.whole.0 in
    let e = room_of shifts in
    sym (remainder_of-short (e + k) rest is.short)
    ∙ sym (ap (λ zeros. bit_xor zeros (remainder_of (e + k) rest))
    (remainder_of-multiple shifts (e + k) (omega arith)))
    ∙ sym (remainder_of-sum (e + k) (multiple_of shifts) rest) ∙ sym (ap (remainder_of (e + k)) is.whole.1)
    ∙ remainder_of-more e k p short

power_of_bytes : (n : ℕ) → 256 ^ n ≡ 2 ^ (8 * n)
power_of_bytes zero = refl
power_of_bytes (suc n) =
    let more : 8 * suc n ≡ 8 * n + 8 = omega arith in
    rw (more, pow-add 2 (8 * n) 8) (pow-suc 256 n ∙ ap (λ m. m * 256) (power_of_bytes n))

dividend_of-lt : (bytes : List ℕ) → All (λ byte. byte < 256) bytes → dividend_of bytes < 2 ^ (16 + 8 * length bytes)
unfolding dividend_of
dividend_of-lt bytes fit =
    let n = 8 * length bytes in
    let number : number_from_digits 256 bytes < 2 ^ n =
    rw (← power_of_bytes (length bytes))
    (number_lt 256 bytes (recursion_from_All (λ byte. byte < 256) bytes fit)) in
    let turn : n + 16 ≡ 16 + n = omega arith in
    xor_lt (16 + n) (number_from_digits 256 bytes * 2 ^ 16) (0xFFFF * 2 ^ n)
    (rw turn at (shl_below (number_from_digits 256 bytes) n 16 number)) (shl_below 0xFFFF 16 n (omega arith))

pub crc_is_the_remainder : CrcIsTheRemainder
unfolding crc_of
crc_is_the_remainder bytes fit rest =
    let k = 8 * length bytes in
    let p = dividend_of bytes in
    let short = dividend_of-lt bytes fit in (
      λ is. remainder_of-only k p rest short is,
      λ same. rw same (record { short = remainder_of-lt k p short; whole = remainder_of-rest k p }),
    )
