-- What `frames` prints of the bytes read.
use Rattle.std.specs.Prelude.{ℕ, ◌/◌, ◌%◌, List, length, take}
use Rattle.lr_bits.specs.declared.sizes.TheConstants.{FRAME_BYTES}
use Rattle.lr_vc.specs.Frame.{frame_of}
use Rattle.lr_forms.specs.declared.forms.Input.TheVariants.{Units}
use Rattle.lr_forms.specs.declared.forms.Stop.{Stop}
use Rattle.lr_forms.specs.declared.forms.UnitForm.TheVariants.{Frames as FrameUnits}
use Rattle.lr_catalog.specs.declared.summary.Summary.TheVariants.{Frames}
use Rattle.lr_catalog.specs.Frames.{frame_line}
use Rattle.lr_catalog.specs.Summaries.{summary_line}
use Rattle.lr_reading.specs.Lines.{numbered_lines}
use Rattle.lr_reading.specs.Readers.{leeway_for}
use Rattle.lr_reading.specs.Reading.{units_of}
use Rattle.lr_cmd_print.specs.Printing.{Printed}

-- the lines of these frames, each numbered by its place
unfoldable pub lines_of_frames : List (List ℕ) → List ℕ
lines_of_frames frames = numbered_lines (λ place frame. frame_line place (frame_of frame)) 0 frames

-- a line for each whole frame
abbrev pub frames_text : List ℕ → List ℕ
frames_text bytes = lines_of_frames (units_of FRAME_BYTES bytes)

-- how many they are, and how many bytes are no whole frame
abbrev pub frames_last : List ℕ → Stop → List ℕ
frames_last bytes stop =
    summary_line (Frames (length bytes / FRAME_BYTES) (length bytes % FRAME_BYTES)) stop

-- what the command prints that takes this many bytes at most
abbrev pub frames_printed : ℕ → Printed
frames_printed most = record {
  lines = frames_text;
  first = λ bytes count. lines_of_frames (take count (units_of FRAME_BYTES bytes));
  last = frames_last;
  input = Units FrameUnits;
  leeway = leeway_for (Units FrameUnits) 1;
  limit = most;
}
