-- Blocks of 1,020 bytes: four words, interleaved byte by byte (CCSDS 131.0-B, section 4, symbol interleaving at depth
-- 4). Byte k of a block is byte k / 4 of word k % 4, so byte i of word k is byte 4 i + k of the block.
use Rattle.std.specs.Prelude.{◌≡◌, ◌<◌, ℕ, ◌+◌, ◌*◌, List, [], ◌∷◌, length, map, take, slice_index}
use Rattle.std.specs.List.{range_with_len}
use Rattle.lr_rs.specs.Words.{IsWord, IsCodeword, IsRestored, distance}
use Rattle.lr_bits.specs.declared.sizes.TheConstants.{BLOCK_BYTES, FRAME_BYTES}
use Rattle.lr_rs.specs.declared.sizes.TheConstants.{INFORMATION_BYTES, WORD_BYTES}

-- every fourth byte from place k on, this many of them
unfoldable pub every_fourth : ℕ → List ℕ → ℕ → List ℕ
every_fourth count bytes k = map (λ i. slice_index bytes (4 * i + k)) (range_with_len 0 count)

-- word k of a block, from 0 to 3
abbrev pub word_of : List ℕ → ℕ → List ℕ
word_of = every_fourth WORD_BYTES

-- the first 223 bytes of word k, where these are the first 892 bytes of a block
abbrev pub information_of : List ℕ → ℕ → List ℕ
information_of = every_fourth INFORMATION_BYTES

-- the four words of one block are the restored words of the other's
pub record IsRestoredBlock (block restored : List ℕ) : Type 0 where
  pub long : length restored ≡ BLOCK_BYTES
  pub words : (k : ℕ) → k < 4 → IsRestored (word_of block k) (word_of restored k)

-- in how many places each of the four words differs
abbrev pub changes_of : List ℕ → List ℕ → List ℕ
changes_of a b =
    distance WORD_BYTES (word_of a 0) (word_of b 0)
    ∷ distance WORD_BYTES (word_of a 1) (word_of b 1)
    ∷ distance WORD_BYTES (word_of a 2) (word_of b 2)
    ∷ distance WORD_BYTES (word_of a 3) (word_of b 3)
    ∷ []

-- word k has no restored word, and each word before it has one
pub record IsFirstLost (block : List ℕ) (k : ℕ) : Type 0 where
  pub word : k < 4
  pub before : (j : ℕ) → j < k → (restored : List ℕ) × IsRestored (word_of block j) restored
  pub lost : (restored : List ℕ) → IsRestored (word_of block k) restored → ⊥

-- the block is four codewords, and its first 892 bytes are the frame
pub record IsEncoded (frame block : List ℕ) : Type 0 where
  pub long : length block ≡ BLOCK_BYTES
  pub words : (k : ℕ) → k < 4 → IsWord (word_of block k)
  pub codewords : (k : ℕ) → k < 4 → IsCodeword (word_of block k)
  pub begins : take FRAME_BYTES block ≡ frame
