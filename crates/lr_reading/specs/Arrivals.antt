-- What comes of the bytes that a call reads, in order: of symbols the windows of all frames, of units each whole unit.
use Rattle.std.specs.Prelude.{◌≡◌, ℕ, ℤ, Some, None, List, length, map}
use Rattle.lr_forms.specs.declared.forms.Decoding.{Decoding}
use Rattle.lr_bits.specs.declared.outcome.Outcome.{Outcome}
use Rattle.lr_bits.specs.declared.outcome.Outcome.TheVariants.{Restored, Lost}
use Rattle.lr_bits.specs.declared.sizes.TheConstants.{FRAME_BYTES}
use Rattle.lr_conv.specs.Marker.{tail_of}
use Rattle.lr_lock.specs.FramesOf.{frames_of}
use Rattle.lr_lock.specs.Symbols.{symbols_of}
use Rattle.lr_lock.specs.declared.frame.Frame.{Frame}
use Rattle.lr_frame.specs.Outcomes.{redecoded_in}
use Rattle.lr_reading.specs.Inputs.{unit_bytes, outcome_of_unit}
use Rattle.lr_reading.specs.Reading.{units_of}
use Rattle.lr_reading.specs.declared.arrival.Arrival.{Arrival}
use Rattle.lr_forms.specs.declared.forms.Input.{Input}
use Rattle.lr_forms.specs.declared.forms.Input.TheVariants.{Symbols, Units}
use Rattle.lr_forms.specs.declared.forms.UnitForm.{UnitForm}

-- a block was restored to a whole frame, if it was
abbrev pub HasWholeFrame : Outcome → Type 0
HasWholeFrame (Restored corrected frame) = length frame ≡ FRAME_BYTES
HasWholeFrame (Lost word) = Unit {0}

-- the outcome of a frame's window that is decoded so
abbrev pub decoded_in : Decoding → List ℤ → Frame → Outcome
decoded_in decoding symbols frame = redecoded_in decoding.line decoding.passes symbols frame

-- what comes of a frame of these symbols
abbrev pub arrival_in : Decoding → List ℤ → Frame → Arrival
arrival_in decoding symbols frame = record {
  position = Some (record { place = frame.place; positive = frame.positive });
  outcome = decoded_in decoding symbols frame;
}

-- what comes of a unit, or of anything else that has no place among symbols
abbrev pub arrival_of : Outcome → Arrival
arrival_of outcome = record { position = None; outcome = outcome }

unfoldable pub arrivals_of_units : UnitForm → List (List ℕ) → List Arrival
arrivals_of_units form units = map (λ unit. arrival_of (outcome_of_unit form unit)) units

unfoldable pub arrivals_of : Input → List ℕ → List Arrival
arrivals_of (Symbols decoding) bytes =
    map (arrival_in decoding (symbols_of bytes)) (frames_of (tail_of decoding.line) (symbols_of bytes))
arrivals_of (Units form) bytes = arrivals_of_units form (units_of (unit_bytes form) bytes)

-- their outcomes
abbrev pub outcomes_of_arrivals : List Arrival → List Outcome
outcomes_of_arrivals arrivals = map (λ (arrival : Arrival). arrival.outcome) arrivals
