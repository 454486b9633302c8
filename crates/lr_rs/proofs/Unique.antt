-- Two codewords that differ in at most 32 places are equal.
use Rattle.std.proofs.Common.{◌≡◌, ℕ, zero, suc, ◌+◌, ◌-◌, ◌*◌, ◌<◌, ◌≤◌, List, slice_index, sym, ap, ◌∙◌, arith, inl}
use Rattle.std.proofs.Common.{inr}
use Rattle.std.specs.Int.Bits.{bit_xor, xor_assoc, xor_comm, xor_self, xor_lt}
use Rattle.std.proofs.lemmas.Bool.{cases_eq}
use Rattle.std.proofs.lemmas.List.{same_lists, get_or_default}
use Rattle.lr_gf.specs.Sums.{sum_of, weight}
use Rattle.lr_gf.specs.Field.{times, power}
use Rattle.lr_gf.specs.Dual.{conventional_of, dual_of}
use Rattle.lr_gf.proofs.Laws.{times-add-left}
use Rattle.lr_gf.proofs.Powers.{power-mul}
use Rattle.lr_gf.proofs.DualLaws.{dual-conventional, conventional-lt}
use Rattle.lr_gf.proofs.SumLaws.{sum_of-same, sum_of-add, same_from_sum, weight-le, weight-add, weight-suc_zero}
use Rattle.lr_gf.proofs.SumLaws.{weight-suc_le}
use Rattle.lr_gf.proofs.Vanishing.{vanishing}
use Rattle.lr_rs.specs.Words.{locator, word_value, IsCodeword, distance, IsWord, AtMostOneIsRestored}
use Rattle.lr_rs.proofs.Locators.{locators}
use Rattle.lr_gf.proofs.Elimination.{if_other}
use Rattle.lr_rs.specs.declared.sizes.TheConstants.{WORD_BYTES}

-- the difference of two words, out of the dual basis
abbrev pub difference : List ℕ → List ℕ → ℕ → ℕ
difference a b i = bit_xor (conventional_of (slice_index a i)) (conventional_of (slice_index b i))

-- the value of a word at a root, in the locators of its places
pub value_by_locators : (a : List ℕ) (j : ℕ) → word_value a (power 2 (11 * j))
    ≡ sum_of WORD_BYTES (λ i. times (conventional_of (slice_index a i)) (power (locator i) j))
unfolding word_value
value_by_locators a j =
    sum_of-same WORD_BYTES (λ i. times (conventional_of (slice_index a i)) (power (power 2 (11 * j)) (254 - i)))
    (λ i. times (conventional_of (slice_index a i)) (power (locator i) j))
    (λ i h. ap (times (conventional_of (slice_index a i)))
    (sym (power-mul 2 (11 * j) (254 - i) (omega arith)) ∙ ap (power 2) (turned j (254 - i))
    ∙ power-mul 2 (11 * (254 - i)) j (omega arith)))
  where
    turned : (j k : ℕ) → 11 * j * k ≡ 11 * k * j
    turned j k = grind arith

-- the values of the difference of two words
pub value_of_difference : (a b : List ℕ) (j : ℕ)
    → sum_of WORD_BYTES (λ i. times (difference a b i) (power (locator i) j))
    ≡ bit_xor (word_value a (power 2 (11 * j))) (word_value b (power 2 (11 * j)))
value_of_difference a b j =
    sum_of-same WORD_BYTES (λ i. times (difference a b i) (power (locator i) j))
    (λ i. bit_xor (times (conventional_of (slice_index a i)) (power (locator i) j))
    (times (conventional_of (slice_index b i)) (power (locator i) j)))
    (λ i h. times-add-left (conventional_of (slice_index a i)) (conventional_of (slice_index b i))
    (power (locator i) j))
    ∙ sum_of-add WORD_BYTES (λ i. times (conventional_of (slice_index a i)) (power (locator i) j))
    (λ i. times (conventional_of (slice_index b i)) (power (locator i) j))
    ∙ ap (λ z. bit_xor z (sum_of WORD_BYTES (λ i. times (conventional_of (slice_index b i)) (power (locator i) j))))
    (sym (value_by_locators a j))
    ∙ ap (bit_xor (word_value a (power 2 (11 * j)))) (sym (value_by_locators b j))

-- the difference isn't zero in at most as many places as the words differ in
pub weight-distance : (n : ℕ) (a b : List ℕ) → weight n (difference a b) ≤ distance n a b
unfolding weight distance
weight-distance zero a b = omega arith
weight-distance (suc n) a b =
    elim (cases_eq (slice_index a n) (slice_index b n)) [
      | inl e ↦
          let none : difference a b n ≡ 0 =
          ap (λ z. bit_xor (conventional_of z) (conventional_of (slice_index b n))) e
          ∙ xor_self (conventional_of (slice_index b n)) in
          omega (arith, weight-distance n a b, weight-suc_zero n (difference a b) none)
      | inr ne ↦
          omega (
            arith,
            weight-distance n a b,
            weight-suc_le n (difference a b),
            if_other {X = ℕ} (slice_index a n) (slice_index b n) 0 1 ne,
          )
    ]

-- words with equal conventional bytes are equal
pub same_words : (a b : List ℕ) → IsWord a → IsWord b → ((i : ℕ) → i < WORD_BYTES → difference a b i ≡ 0) → a ≡ b
same_words a b p q h =
    same_lists a b (p.long ∙ sym q.long) (λ k d l.
    let short : k < 255 = omega (arith, p.long) in
    let e : slice_index a k ≡ slice_index b k =
    sym (dual-conventional (slice_index a k) (p.bytes k short))
    ∙ ap dual_of (same_from_sum (conventional_of (slice_index a k)) (conventional_of (slice_index b k)) (h k short))
    ∙ dual-conventional (slice_index b k) (q.bytes k short) in
    get_or_default a k d 0 l ∙ e ∙ get_or_default b k 0 d (omega (arith, q.long)))

pub same_codewords : (a b : List ℕ) → IsWord a → IsWord b → IsCodeword a → IsCodeword b
    → weight WORD_BYTES (difference a b) ≤ 32 → a ≡ b
same_codewords a b p q f g few =
    same_words a b p q
    (vanishing 32 255 112 (difference a b) locator locators
    (λ i h. xor_lt 8 (conventional_of (slice_index a i)) (conventional_of (slice_index b i))
    (conventional-lt (slice_index a i)) (conventional-lt (slice_index b i)))
    few
    (λ j h. value_of_difference a b (112 + j)
    ∙ ap (λ z. bit_xor z (word_value b (power 2 (11 * (112 + j)))))
    (f.zero_at (112 + j) (omega arith) (omega arith))
    ∙ g.zero_at (112 + j) (omega arith) (omega arith)))

pub at_most_one : AtMostOneIsRestored
at_most_one w a b p f g =
    same_codewords a b f.is_word g.is_word f.is_codeword g.is_codeword
    (omega (
      arith,
      f.near,
      g.near,
      weight-distance WORD_BYTES w a,
      weight-distance WORD_BYTES w b,
      weight-add 255 (difference w a) (difference w b),
      weight-le WORD_BYTES (λ i. bit_xor (difference w a i) (difference w b i)) (difference a b)
          (λ i h e. sym (through (conventional_of (slice_index a i)) (conventional_of (slice_index w i))
          (conventional_of (slice_index b i))) ∙ e),
    ))
  where
    through : (a w b : ℕ) → bit_xor (bit_xor w a) (bit_xor w b) ≡ bit_xor a b
    through a w b =
        ap (λ z. bit_xor z (bit_xor w b)) (xor_comm w a) ∙ xor_assoc a w (bit_xor w b)
        ∙ ap (bit_xor a) (sym (xor_assoc w w b) ∙ ap (λ z. bit_xor z b) (xor_self w))
