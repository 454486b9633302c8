-- Redecoding: where some of a frame's four words are restored, their bytes are known, and the nearest path among the
-- bit strings that agree with them may restore others. Each pass is such a path.
use Rattle.std.specs.Prelude.{ℕ, ℤ, zero, suc, ◌+◌, ◌-◌, ◌*◌, ◌/◌, ◌%◌, ◌==◌, bit_xor, Bool, Option, Some, None}
use Rattle.std.specs.Prelude.{unwrap_or, is_none, List, [], ◌∷◌, map, take, slice_index, slice_index_or}
use Rattle.std.specs.Int.{bit_at}
use Rattle.std.specs.List.{range_with_len, find}
use Rattle.lr_bits.specs.declared.outcome.Outcome.{Outcome}
use Rattle.lr_bits.specs.declared.outcome.Outcome.TheVariants.{Restored, Lost}
use Rattle.lr_bits.specs.declared.sizes.TheConstants.{BLOCK_BYTES, FRAME_BYTES}
use Rattle.lr_conv.specs.declared.line.LineCode.{LineCode}
use Rattle.lr_block.specs.Blocks.{changes_of, word_of}
use Rattle.lr_block.specs.Outcomes.{restored_of}
use Rattle.lr_block.specs.Randomiser.{randomised_block, sequence_byte}
use Rattle.lr_trellis.specs.Path.{bytes_of_bits}
use Rattle.lr_pinned.specs.Pinned.{pinned_path}

-- What is known of a block: of each of its four words the codeword, or none. At first nothing is.
abbrev pub nothing : List (Option (List ℕ))
nothing = None ∷ None ∷ None ∷ None ∷ []

abbrev pub known_word : List (Option (List ℕ)) → ℕ → Option (List ℕ)
known_word known k = slice_index_or known k None

-- the pin of bit i of a block as it is sent, by what is known of its word: the word's bit, randomised
abbrev pub pin_by : ℕ → Option (List ℕ) → Option Bool
pin_by i None = None
pin_by i (Some word) =
    Some (bit_at (bit_xor (slice_index word (i / 32)) (sequence_byte (i / 8))) (7 - i % 8) == 1)

unfoldable pub pins_of : List (Option (List ℕ)) → List (Option Bool)
pins_of known = map (λ i. pin_by i (known_word known (i / 8 % 4))) (range_with_len 0 (8 * BLOCK_BYTES))

-- the block of the nearest path that agrees with what is known, without the randomiser's sequence
unfoldable pub block_by : LineCode → List ℤ → List (Option (List ℕ)) → List ℕ
block_by line window known = randomised_block (bytes_of_bits (pinned_path line (pins_of known) window))

-- what is known stays; else the restored word, if there is one
abbrev pub known_or : Option (List ℕ) → Option (List ℕ) → Option (List ℕ)
known_or (Some word) restored = Some word
known_or None restored = restored

-- what is known after the words of a block
unfoldable pub with_block : List (Option (List ℕ)) → List ℕ → List (Option (List ℕ))
with_block known block = map (λ k. known_or (known_word known k) (restored_of (word_of block k))) (range_with_len 0 4)

-- what is known after one pass more
abbrev pub next : LineCode → List ℤ → List (Option (List ℕ)) → List (Option (List ℕ))
next line window known = with_block known (block_by line window known)

-- what is known after this many passes
abbrev pub known_after : LineCode → List ℤ → ℕ → List (Option (List ℕ))
known_after line window zero = nothing
known_after line window (suc passes) = next line window (known_after line window passes)

abbrev pub one_if_some : Option (List ℕ) → ℕ
one_if_some None = 0
one_if_some (Some word) = 1

-- how many words are known
abbrev pub count_known : List (Option (List ℕ)) → ℕ
count_known known = one_if_some (known_word known 0) + one_if_some (known_word known 1)
    + one_if_some (known_word known 2) + one_if_some (known_word known 3)

-- the known words, interleaved; no bytes where a word isn't known
unfoldable pub known_block : List (Option (List ℕ)) → List ℕ
known_block known =
    map (λ place. slice_index (unwrap_or (known_word known (place % 4)) []) (place / 4)) (range_with_len 0 BLOCK_BYTES)

-- The outcome of what is known, and of the block of the first path: where all four words are known, in how many bytes
-- each differs from that block, and the first 892 bytes; else the first word that isn't known.
abbrev pub outcome_at : List ℕ → List (Option (List ℕ)) → Option ℕ → Outcome
outcome_at block known None = Restored (record { 0 = changes_of block (known_block known) })
    (take FRAME_BYTES (known_block known))
outcome_at block known (Some k) = Lost k

unfoldable pub outcome_by : List ℕ → List (Option (List ℕ)) → Outcome
outcome_by block known = outcome_at block known (find (λ k. is_none (known_word known k)) (range_with_len 0 4))

-- the outcome of a window after this many passes
unfoldable pub outcome_after : LineCode → List ℤ → ℕ → Outcome
outcome_after line window passes = outcome_by (block_by line window nothing) (known_after line window passes)
