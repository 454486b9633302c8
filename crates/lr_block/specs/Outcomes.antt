-- What becomes of a received block, said twice: by what it is, and as a function of the block. A restored word is known
-- only by what it is; but there is at most one, and it is among the finitely many words of 255 bytes, so the function
-- seeks it there. No program computes that function.
use Rattle.std.specs.Prelude.{
  ◌≡◌,
  ◌<◌,
  ◌≤◌,
  ◌↔◌,
  ℕ,
  zero,
  suc,
  ◌*◌,
  ◌/◌,
  ◌%◌,
  ◌==◌,
  Bool,
  ◌&&◌,
  nat_le,
  Option,
  Some,
  None,
  unwrap_or,
  is_none,
  List,
  [],
  ◌∷◌,
  length,
  map,
  take,
  slice_index,
}
use Rattle.std.specs.List.{range_with_len, flat_map, find, list_all}
use Rattle.lr_gf.specs.Field.{power}
use Rattle.lr_rs.specs.Words.{IsWord, IsRestored, word_value, distance, most_errors}
use Rattle.lr_bits.specs.declared.outcome.Outcome.{Outcome}
use Rattle.lr_bits.specs.declared.outcome.Outcome.TheVariants.{Restored, Lost}
use Rattle.lr_block.specs.Randomiser.{randomised_block}
use Rattle.lr_block.specs.Blocks.{word_of, changes_of, IsEncoded, IsRestoredBlock, IsFirstLost}
use Rattle.lr_rs.specs.declared.sizes.TheConstants.{CHECK_BYTES, WORD_BYTES}
use Rattle.lr_bits.specs.declared.sizes.TheConstants.{BLOCK_BYTES, FRAME_BYTES}

-- The outcome of a block, by what it is. The randomiser's sequence is taken away. Where all four words are restored,
-- the outcome is the numbers of changed bytes and the first 892 bytes of the restored block; else the first word that
-- isn't.
abbrev pub IsOutcome : List ℕ → Outcome → Type 0
IsOutcome block (Restored corrected frame) =
    (restored : List ℕ)
    × IsRestoredBlock (randomised_block block) restored
    × (corrected.0 ≡ changes_of (randomised_block block) restored)
    × (frame ≡ take FRAME_BYTES restored)
IsOutcome block (Lost k) = IsFirstLost (randomised_block block) k

-- all lists of this many numbers below a limit
unfoldable pub all_lists : ℕ → ℕ → List (List ℕ)
all_lists limit zero = [] ∷ []
all_lists limit (suc n) = flat_map (λ rest. map (λ number. number ∷ rest) (range_with_len 0 limit)) (all_lists limit n)

-- whether a word of 255 bytes is a codeword that differs from the other in at most sixteen places
unfoldable pub is_restored_word : List ℕ → List ℕ → Bool
is_restored_word word codeword =
    nat_le (distance WORD_BYTES word codeword) most_errors
    && list_all (λ j. word_value codeword (power 2 (11 * j)) == 0) (range_with_len 112 CHECK_BYTES)

-- the restored word of a word, if there is one
unfoldable pub restored_of : List ℕ → Option (List ℕ)
restored_of word = find (is_restored_word word) (all_lists 256 WORD_BYTES)

-- the law: it is the restored word
abbrev pub RestoredIsFound : Type 0
RestoredIsFound =
    (word : List ℕ) → IsWord word → (codeword : List ℕ) → IsRestored word codeword ↔ (restored_of word ≡ Some codeword)

-- the restored word of word k of a block; no bytes where there is none
unfoldable pub restored_word : List ℕ → ℕ → List ℕ
restored_word block k = unwrap_or (restored_of (word_of block k)) []

-- the first word of a block, 0 to 3, that has no restored word
unfoldable pub first_lost : List ℕ → Option ℕ
first_lost block = find (λ k. is_none (restored_of (word_of block k))) (range_with_len 0 4)

-- the restored words, interleaved
unfoldable pub restored_block : List ℕ → List ℕ
restored_block block = map (λ place. slice_index (restored_word block (place % 4)) (place / 4))
    (range_with_len 0 BLOCK_BYTES)

-- the outcome of a block without the randomiser's sequence, where this is its first lost word
abbrev pub outcome_at : List ℕ → Option ℕ → Outcome
outcome_at block None = Restored (record { 0 = changes_of block (restored_block block) })
    (take FRAME_BYTES (restored_block block))
outcome_at block (Some k) = Lost k

-- the outcome of a block
unfoldable pub outcome_of_block : List ℕ → Outcome
outcome_of_block block = outcome_at (randomised_block block) (first_lost (randomised_block block))

-- 1,020 bytes
pub record IsBlock (block : List ℕ) : Type 0 where
  pub long : length block ≡ BLOCK_BYTES
  pub bytes : (i : ℕ) → i < BLOCK_BYTES → slice_index block i < 256

-- the law: each block has one outcome, and this is it
abbrev pub OutcomeIsTheOne : Type 0
OutcomeIsTheOne = (block : List ℕ) → IsBlock block → (outcome : Outcome)
    → IsOutcome block outcome ↔ (outcome ≡ outcome_of_block block)

-- the law: an encoded frame that is received with at most sixteen wrong bytes in each word is restored
abbrev pub SentBlockIsReceived : Type 0
SentBlockIsReceived =
    (frame sent received : List ℕ) → IsEncoded frame sent → IsBlock received
    → ((k : ℕ) → k < 4 → distance WORD_BYTES (word_of received k) (word_of sent k) ≤ most_errors)
    → outcome_of_block (randomised_block received) ≡ Restored (record { 0 = changes_of received sent }) frame
