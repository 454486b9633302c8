-- What is sent for a frame, and what a receiver makes of it.
use Rattle.std.specs.Prelude.{◌≡◌, ◌<◌, ◌≤◌, ℕ, List, replicate}
use Rattle.lr_bits.specs.declared.outcome.Outcome.TheVariants.{Restored}
use Rattle.lr_rs.specs.Words.{distance}
use Rattle.lr_block.specs.Blocks.{IsEncoded, word_of}
use Rattle.lr_block.specs.Outcomes.{IsBlock, outcome_of_block}
use Rattle.lr_block.specs.Randomiser.{randomised_block}

-- A block is sent for a frame: without the randomiser each of its words differs in at most sixteen places from that of
-- the frame's encoded block.
pub record IsSentFor (frame block : List ℕ) : Type 0 where
  pub encoded : List ℕ
  pub is : IsEncoded frame encoded
  pub whole : IsBlock block
  pub near : (k : ℕ) → k < 4 → distance 255 (word_of (randomised_block block) k) (word_of encoded k) ≤ 16

-- the frame, with `changed` changed bytes in each of the block's four words
abbrev pub IsReceivedAs : ℕ → List ℕ → List ℕ → Type 0
IsReceivedAs changed frame block = outcome_of_block block ≡ Restored (record { 0 = replicate 4 changed }) frame
