-- The lines of frames that come one after another. No clause of a public call cites this.
use Rattle.std.specs.Prelude.{ℕ, List, []}
use Rattle.lr_bits.specs.declared.outcome.Outcome.{Outcome}
use Rattle.lr_bits.specs.declared.outcome.Outcome.TheVariants.{Restored, Lost}
use Rattle.lr_vc.specs.Frame.{frame_of}
use Rattle.lr_catalog.specs.Frames.{frame_line}
use Rattle.lr_reading.specs.Lines.{numbered_lines}
use Rattle.lr_reading.specs.declared.arrival.Arrival.{Arrival}

-- the line of a frame; a block that was lost has none
abbrev pub frame_text : ℕ → Outcome → List ℕ
frame_text place (Restored corrected frame) = frame_line place (frame_of frame)
frame_text place (Lost word) = []

abbrev pub text_of_frames : List Arrival → List ℕ
text_of_frames arrivals =
    numbered_lines (λ place (arrival : Arrival). frame_text place arrival.outcome) 0 arrivals
