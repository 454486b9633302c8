-- The test stream as it is received, and how many bytes its files have at most.
use Rattle.std.specs.Prelude.{◌≡◌, ◌<◌, ◌≤◌, ◌+◌, ◌*◌, ◌%◌, ℕ, List, ◌++◌, length, map, replicate}
use Rattle.std.specs.List.{range_with_len, sum_by}
use Rattle.lr_bits.specs.declared.outcome.Outcome.{Outcome}
use Rattle.lr_bits.specs.declared.outcome.Outcome.TheVariants.{Restored}
use Rattle.lr_bits.specs.File.{File, bytes_of}
use Rattle.lr_bits.specs.Bits.{field_of}
use Rattle.lr_bits.specs.declared.sizes.TheConstants.{FILL_CHANNEL, ZONE_BYTES}
use Rattle.lr_conv.specs.declared.line.TheConstants.{STANDARD}
use Rattle.lr_frame.specs.Outcomes.{outcomes_of_symbols}
use Rattle.lr_layers.specs.Layers.{files_of_outcomes}
use Rattle.lr_make.specs.Blocks.{block_at}
use Rattle.lr_make.specs.Frames.{frame_at}
use Rattle.lr_make.specs.Received.{IsReceivedAs}
use Rattle.lr_make.specs.Stream.{symbol_stream}

-- the outcomes of the first n frames of the stream, with this many wrong bytes in each word
abbrev pub made_outcomes : ℕ → ℕ → ℕ → List Outcome
made_outcomes start wrong n =
    map (λ k. Restored (record { 0 = replicate 4 wrong }) (frame_at start k)) (range_with_len 0 n)

-- the law: where each of the blocks is received as its frame, the symbols of the stream are decoded to its frames
abbrev pub StreamIsReceived : Type 0
StreamIsReceived =
    (start wrong n : ℕ) → ((k : ℕ) → k < n → IsReceivedAs wrong (frame_at start k) (block_at start wrong k)) →
    outcomes_of_symbols STANDARD (symbol_stream start wrong n) ≡ made_outcomes start wrong n

-- the law: each fourth frame is of channel 63
abbrev pub FillIsFill : Type 0
FillIsFill = (start k : ℕ) → k % 4 ≡ 3 → field_of (frame_at start k) 10 6 ≡ FILL_CHANNEL

-- how many bytes a file has, with 2 more for each body and 39 more for itself; and of these files together
abbrev pub room_for_file : File → ℕ
room_for_file file = length (bytes_of file) + 2 * length file.bodies + 39

abbrev pub room_of_files : List File → ℕ
room_of_files files = sum_by room_for_file files

-- the law: for the files of some first outcomes of n frames as many bytes are enough as n + 1 zones have
abbrev pub MadeFilesFit : Type 0
MadeFilesFit =
    (start wrong n : ℕ) (front later : List Outcome) → made_outcomes start wrong n ≡ front ++ later →
    room_of_files (files_of_outcomes front) ≤ ZONE_BYTES * (n + 1)
