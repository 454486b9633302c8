-- The division by the generator polynomial.
use Rattle.std.specs.Prelude.{ℕ, ◌+◌, ◌*◌, ◌<◌, ◌≡◌, bit_xor, List, [], ◌∷◌, length, map, slice_index}
use Rattle.lr_gf.specs.Field.{times, power, value_of}
use Rattle.lr_gf.specs.Dual.{conventional_of}
use Rattle.lr_rs.specs.Words.{word_value}
use Rattle.lr_rs.specs.declared.sizes.TheConstants.{CHECK_BYTES}

-- the generator polynomial's coefficient of x^(31 - k); that of x^32 is 1
unfoldable pub generator_coefficient : ℕ → ℕ
generator_coefficient k =
    slice_index
    (0x5B ∷ 0x7F ∷ 0x56 ∷ 0x10 ∷ 0x1E ∷ 0x0D ∷ 0xEB ∷ 0x61
    ∷ 0xA5 ∷ 0x08 ∷ 0x2A ∷ 0x36 ∷ 0x56 ∷ 0xAB ∷ 0x20 ∷ 0x71
    ∷ 0x20 ∷ 0xAB ∷ 0x56 ∷ 0x36 ∷ 0x2A ∷ 0x08 ∷ 0xA5 ∷ 0x61
    ∷ 0xEB ∷ 0x0D ∷ 0x1E ∷ 0x10 ∷ 0x56 ∷ 0x7F ∷ 0x5B ∷ 0x01 ∷ []) k

-- the remainder is multiplied by x, the coefficient added, and the generator polynomial taken away
-- as often as it goes
pub record IsDivisionStep (coefficient : ℕ) (old new : List ℕ) : Type 0 where
  pub long : length new ≡ CHECK_BYTES
  pub next : (k : ℕ) → k < 31
      → slice_index new k ≡ bit_xor (slice_index old (k + 1)) (times (slice_index old 0) (generator_coefficient k))
  pub last :
      slice_index new 31 ≡ bit_xor coefficient (times (slice_index old 0) (generator_coefficient 31))

-- 32 coefficients, whose polynomial has the values at the 32 roots of the polynomial of these bytes, out of the dual
-- basis, of which the first is the highest coefficient
pub record IsRemainderOf (bytes remainder : List ℕ) : Type 0 where
  pub long : length remainder ≡ CHECK_BYTES
  pub same : (j : ℕ) → j < CHECK_BYTES
      → value_of remainder (power 2 (11 * (112 + j))) ≡ value_of (map conventional_of bytes) (power 2 (11 * (112 + j)))
  pub elements : (k : ℕ) → slice_index remainder k < 256

-- the remainder of a whole word
pub record IsWordRemainder (word remainder : List ℕ) : Type 0 where
  pub long : length remainder ≡ CHECK_BYTES
  pub same : (j : ℕ) → j < CHECK_BYTES
      → value_of remainder (power 2 (11 * (112 + j))) ≡ word_value word (power 2 (11 * (112 + j)))
  pub elements : (k : ℕ) → slice_index remainder k < 256
