-- Blocks that are sent one after another under a line code (CCSDS 131.0-B, sections 3.3, 4 and 9.3), and what a
-- receiver makes of them.
use Rattle.std.specs.Prelude.{◌≡◌, ℕ, ℤ, Bool, false, List, [], ◌∷◌, map, All}
use Rattle.std.specs.List.{flat_map}
use Rattle.lr_bits.specs.declared.outcome.Outcome.{Outcome}
use Rattle.lr_bits.specs.declared.outcome.Outcome.TheVariants.{Restored, Lost}
use Rattle.lr_block.specs.Outcomes.{IsBlock, outcome_of_block}
use Rattle.lr_conv.specs.Convolution.{code}
use Rattle.lr_conv.specs.Levels.{levels, six_zeros}
use Rattle.lr_conv.specs.declared.line.LineCode.{LineCode}
use Rattle.lr_conv.specs.declared.passes.Passes.{Passes}
use Rattle.lr_frame.specs.Outcomes.{outcomes_of_symbols, redecoded_outcomes}
pub use Rattle.lr_make.specs.Received.{IsSentFor}
use Rattle.lr_make.specs.Symbols.{bits_of_bytes, level, marked_block}

-- the bits of what is sent of these blocks: each of them with the marker in front of it
unfoldable pub bits_of_blocks : List (List ℕ) → List Bool
bits_of_blocks blocks = flat_map (λ block. bits_of_bytes (marked_block block)) blocks

-- their symbols under a line code, by one encoder that begins after six levels 0
unfoldable pub symbols_of_blocks : LineCode → List (List ℕ) → List ℤ
symbols_of_blocks line blocks = map level (code line six_zeros (levels line false (bits_of_blocks blocks)))

-- one block is sent for each frame, in their order
abbrev pub AreSentFor : List (List ℕ) → List (List ℕ) → Type 0
AreSentFor [] [] = Unit {0}
AreSentFor [] (block ∷ blocks) = ⊥
AreSentFor (frame ∷ frames) [] = ⊥
AreSentFor (frame ∷ frames) (block ∷ blocks) = IsSentFor frame block × AreSentFor frames blocks

-- the outcome is this frame, restored
abbrev pub IsFrame : List ℕ → Outcome → Type 0
IsFrame frame (Restored corrected restored) = restored ≡ frame
IsFrame frame (Lost word) = ⊥

-- the outcomes are just these frames, restored, in their order
abbrev pub AreRestored : List (List ℕ) → List Outcome → Type 0
AreRestored [] [] = Unit {0}
AreRestored [] (outcome ∷ outcomes) = ⊥
AreRestored (frame ∷ frames) [] = ⊥
AreRestored (frame ∷ frames) (outcome ∷ outcomes) = IsFrame frame outcome × AreRestored frames outcomes

-- the law: the outcomes of the symbols of blocks are those of the blocks, whatever is in them
abbrev pub BlocksAreReceived : Type 0
BlocksAreReceived =
    (line : LineCode) (blocks : List (List ℕ)) → All IsBlock blocks →
    outcomes_of_symbols line (symbols_of_blocks line blocks) ≡ map outcome_of_block blocks

-- the law: what is sent is received
abbrev pub SentIsReceived : Type 0
SentIsReceived =
    (line : LineCode) (frames blocks : List (List ℕ)) → AreSentFor frames blocks →
    AreRestored frames (outcomes_of_symbols line (symbols_of_blocks line blocks))

-- the law: and it is received the same, however many passes are made
abbrev pub SentIsRedecoded : Type 0
SentIsRedecoded =
    (line : LineCode) (passes : Passes) (frames blocks : List (List ℕ)) → AreSentFor frames blocks →
    redecoded_outcomes line passes (symbols_of_blocks line blocks)
    ≡ outcomes_of_symbols line (symbols_of_blocks line blocks)
