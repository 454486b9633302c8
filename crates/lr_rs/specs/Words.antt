-- Words of 255 bytes, codewords, and the restored word: CCSDS 131.0-B, section 4, with 223 bytes of
-- information.
use Rattle.std.specs.Prelude.{
  ℕ,
  ◌+◌,
  ◌-◌,
  ◌*◌,
  ◌<◌,
  ◌≤◌,
  ◌≡◌,
  ◌==◌,
  List,
  length,
  slice_index,
  zero,
  suc,
  if◌then◌else◌,
}
use Rattle.lr_gf.specs.Sums.{sum_of}
use Rattle.lr_gf.specs.Field.{times, power}
use Rattle.lr_gf.specs.Dual.{conventional_of}
use Rattle.lr_rs.specs.declared.sizes.TheConstants.{WORD_BYTES}

-- 255 bytes
pub record IsWord (word : List ℕ) : Type 0 where
  pub long : length word ≡ WORD_BYTES
  pub bytes : (i : ℕ) → i < WORD_BYTES → slice_index word i < 256

-- the value of a word's polynomial at x: byte i, out of the dual basis, is the coefficient of
-- x^(254 - i)
unfoldable pub word_value : List ℕ → ℕ → ℕ
word_value word x =
    sum_of WORD_BYTES (λ i. times (conventional_of (slice_index word i)) (power x (254 - i)))

-- the polynomial is zero at α^(11 j) for each j in 112..143; α, the class of x, is the element 2
pub record IsCodeword (word : List ℕ) : Type 0 where
  pub zero_at : (j : ℕ) → 112 ≤ j → j < 144 → word_value word (power 2 (11 * j)) ≡ 0

-- in how many of the first n places two words differ
unfoldable pub distance : ℕ → List ℕ → List ℕ → ℕ
distance zero a b = 0
distance (suc n) a b = distance n a b + (if slice_index a n == slice_index b n then 0 else 1)

-- how many bytes of a word may be wrong: half as many as there are check bytes (CCSDS 131.0-B)
abbrev pub most_errors : ℕ
most_errors = 16

-- a codeword that differs from the word in at most sixteen places
pub record IsRestored (word codeword : List ℕ) : Type 0 where
  pub is_word : IsWord codeword
  pub is_codeword : IsCodeword codeword
  pub near : distance WORD_BYTES word codeword ≤ most_errors

-- the law: a word has at most one restored word
abbrev pub AtMostOneIsRestored : Type 0
AtMostOneIsRestored =
    (word a b : List ℕ) → IsWord word → IsRestored word a → IsRestored word b → a ≡ b

-- the locator of a place: α^11 to the exponent of the place's power of x
abbrev pub locator : ℕ → ℕ
locator i = power 2 (11 * (254 - i))
