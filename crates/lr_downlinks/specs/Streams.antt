-- The mission files of a stream of symbols, a byte each, under a line code, and those of the downlinks of a bundle.
use Rattle.std.specs.Prelude.{ℕ, List, [], slice_index_or}
use Rattle.lr_bits.specs.declared.placed.Placed.{Placed}
use Rattle.lr_conv.specs.declared.line.LineCode.{LineCode}
use Rattle.lr_frame.specs.Outcomes.{outcomes_of_symbols}
use Rattle.lr_layers.specs.Origins.{placed_of_outcomes}
use Rattle.lr_lock.specs.Symbols.{symbols_of}

-- the files of the outcomes of its frames, with their origins
unfoldable pub files_of_stream : LineCode → List ℕ → List Placed
files_of_stream line stream = placed_of_outcomes (outcomes_of_symbols line (symbols_of stream))

-- those of a downlink, by its number
abbrev pub files_of_downlink : LineCode → List (List ℕ) → ℕ → List Placed
files_of_downlink line streams downlink = files_of_stream line (slice_index_or streams downlink [])
