-- What `decode` prints of the bytes read.
use Rattle.std.specs.Prelude.{◌-◌, ℕ, ℤ, not, List, length, take, count_by}
use Rattle.lr_bits.specs.declared.outcome.Outcome.{Outcome}
use Rattle.lr_bits.specs.Outcomes.{is_restored}
use Rattle.lr_forms.specs.declared.forms.Stop.{Stop}
use Rattle.lr_catalog.specs.declared.summary.DecodeSums.{DecodeSums}
use Rattle.lr_catalog.specs.declared.summary.Summary.TheVariants.{Decode}
use Rattle.lr_catalog.specs.Outcomes.{block_line, window_line}
use Rattle.lr_catalog.specs.Summaries.{summary_line}
use Rattle.lr_conv.specs.Marker.{tail_of}
use Rattle.lr_lock.specs.FramesOf.{frames_of}
use Rattle.lr_lock.specs.declared.frame.Frame.{Frame}
use Rattle.lr_lock.specs.Symbols.{symbols_of}
use Rattle.lr_forms.specs.declared.forms.UnitForm.{UnitForm}
use Rattle.lr_forms.specs.declared.forms.Decoding.{Decoding}
use Rattle.lr_forms.specs.declared.forms.Input.{Input}
use Rattle.lr_forms.specs.declared.forms.Input.TheVariants.{Symbols, Units}
use Rattle.lr_reading.specs.Arrivals.{decoded_in}
use Rattle.lr_reading.specs.Inputs.{unit_bytes, outcome_of_unit, outcomes_of_bytes, bytes_left_over}
use Rattle.lr_reading.specs.Lines.{numbered_lines}
use Rattle.lr_reading.specs.Readers.{leeway_for}
use Rattle.lr_reading.specs.Reading.{units_of}
use Rattle.lr_reading.specs.declared.read_counts.ReadCounts.{ReadCounts}
use Rattle.lr_cmd_print.specs.Printing.{Printed}

-- the lines of these blocks, each numbered by its place
unfoldable pub lines_of_units : UnitForm → List (List ℕ) → List ℕ
lines_of_units form units =
    numbered_lines (λ place unit. block_line place (outcome_of_unit form unit)) 0 units

-- the lines of the windows of these frames of some symbols, each numbered by its place among the frames
unfoldable pub lines_of_windows : Decoding → List ℤ → List Frame → List ℕ
lines_of_windows decoding symbols frames =
    numbered_lines (λ place (frame : Frame).
    window_line place frame.place frame.positive (decoded_in decoding symbols frame)) 0 frames

-- a line for the window of each frame of the symbols, or for each whole block
abbrev pub decode_text : Input → List ℕ → List ℕ
decode_text (Symbols decoding) bytes =
    lines_of_windows decoding (symbols_of bytes) (frames_of (tail_of decoding.line) (symbols_of bytes))
decode_text (Units form) bytes = lines_of_units form (units_of (unit_bytes form) bytes)

-- the lines of the first windows or blocks, this many
abbrev pub decode_first : Input → List ℕ → (count : ℕ) → List ℕ
decode_first (Symbols decoding) bytes count =
    lines_of_windows decoding (symbols_of bytes) (take count (frames_of (tail_of decoding.line) (symbols_of bytes)))
decode_first (Units form) bytes count = lines_of_units form (take count (units_of (unit_bytes form) bytes))

-- what the last line tells, where this many of the frames or blocks read were restored
abbrev pub sums_of : ReadCounts → ℕ → DecodeSums
sums_of totals restored = record {
  symbols = totals.symbols;
  frames = totals.frames;
  restored = restored;
  lost = totals.frames - restored;
  left = totals.left;
}

-- how many bytes were taken, how many outcomes there are, of each kind, and how many bytes are left
unfoldable pub decode_count : List Outcome → ℕ → ℕ → Stop → List ℕ
decode_count outcomes symbols left stop =
    summary_line (Decode (record {
      symbols = symbols;
      frames = length outcomes;
      restored = count_by is_restored outcomes;
      lost = count_by (λ o. not (is_restored o)) outcomes;
      left = left;
    })) stop

abbrev pub decode_last : Input → List ℕ → Stop → List ℕ
decode_last input bytes stop =
    decode_count (outcomes_of_bytes input bytes) (length bytes) (bytes_left_over input bytes) stop

-- what the command prints, while this many work on windows, that takes this many bytes at most
abbrev pub decode_printed : Input → (workers most : ℕ) → Printed
decode_printed input workers most = record {
  lines = decode_text input;
  first = decode_first input;
  last = decode_last input;
  input = input;
  leeway = leeway_for input workers;
  limit = most;
}
