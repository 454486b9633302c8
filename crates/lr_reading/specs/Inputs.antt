-- What the bytes that a call reads stand for, in each form in which they may come.
use Rattle.std.specs.Prelude.{ℕ, ◌≤◌, ◌^◌, ◌%◌, List, [], ◌∷◌, length, map}
use Rattle.lr_bits.specs.declared.outcome.Outcome.{Outcome}
use Rattle.lr_bits.specs.declared.outcome.Outcome.TheVariants.{Restored}
use Rattle.lr_bits.specs.declared.sizes.TheConstants.{BLOCK_BYTES, FRAME_BYTES}
use Rattle.lr_lock.specs.Symbols.{symbols_of}
use Rattle.lr_frame.specs.Outcomes.{redecoded_outcomes}
use Rattle.lr_block.specs.Outcomes.{outcome_of_block}
use Rattle.lr_forms.specs.declared.forms.Input.{Input}
use Rattle.lr_forms.specs.declared.forms.Input.TheVariants.{Symbols, Units}
use Rattle.lr_forms.specs.declared.forms.UnitForm.{UnitForm}
use Rattle.lr_forms.specs.declared.forms.UnitForm.TheVariants.{Blocks, Frames}
use Rattle.lr_reading.specs.Reading.{units_of}

-- how many bytes a block or a frame has
abbrev pub unit_bytes : UnitForm → ℕ
unit_bytes Blocks = BLOCK_BYTES
unit_bytes Frames = FRAME_BYTES

-- a frame that came as it is: restored with no changed byte
abbrev pub as_restored : List ℕ → Outcome
as_restored frame = Restored (record { 0 = 0 ∷ 0 ∷ 0 ∷ 0 ∷ [] }) frame

-- what becomes of a block or a frame
abbrev pub outcome_of_unit : UnitForm → List ℕ → Outcome
outcome_of_unit Blocks block = outcome_of_block block
outcome_of_unit Frames frame = as_restored frame

-- what becomes of these blocks or frames
unfoldable pub outcomes_of_units : UnitForm → List (List ℕ) → List Outcome
outcomes_of_units form units = map (outcome_of_unit form) units

-- The outcomes of the bytes read: those of the windows of all frames of the symbols, under their line code, or those
-- of each whole block or frame.
unfoldable pub outcomes_of_bytes : Input → List ℕ → List Outcome
outcomes_of_bytes (Symbols decoding) bytes = redecoded_outcomes decoding.line decoding.passes (symbols_of bytes)
outcomes_of_bytes (Units form) bytes = outcomes_of_units form (units_of (unit_bytes form) bytes)

-- how many bytes are left that are no whole block or frame; of symbols none are
abbrev pub bytes_left_over : Input → List ℕ → ℕ
bytes_left_over (Symbols decoding) bytes = 0
bytes_left_over (Units form) bytes = length bytes % unit_bytes form

-- how many bytes may be taken: of symbols at most 2^61
abbrev pub MayTake : Input → ℕ → Type 0
MayTake (Symbols decoding) most = most ≤ 2 ^ 61
MayTake (Units form) most = Unit {0}
