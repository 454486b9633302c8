-- Each frame that was restored is whole.
use Rattle.std.proofs.Common.{◌≡◌, ℕ, ◌+◌, ◌*◌, ◌/◌, ◌≤◌, ℤ, List, [], ◌∷◌, length, drop, map, refl}
use Rattle.std.proofs.Common.{arith, zero, suc, length-drop}
use Rattle.std.specs.Prelude.{All}
use Rattle.std.specs.List.{range_with_len}
use Rattle.std.proofs.lemmas.List.{length-take-le}
use Rattle.std.proofs.lemmas.List.Elements.{All-nil, All-cons, All-head, All-tail}
use Rattle.lr_forms.specs.declared.forms.Decoding.{Decoding}
use Rattle.lr_bits.specs.declared.outcome.Outcome.{Outcome}
use Rattle.lr_bits.specs.declared.outcome.Outcome.TheVariants.{Restored, Lost}
use Rattle.lr_block.specs.Outcomes.{outcome_of_block}
use Rattle.lr_conv.specs.Marker.{tail_of}
use Rattle.lr_lock.specs.FramesOf.{frames_of}
use Rattle.lr_lock.specs.Symbols.{symbols_of}
use Rattle.lr_lock.specs.declared.frame.Frame.{Frame}
use Rattle.lr_frame.specs.Outcomes.{redecoded_outcome}
use Rattle.lr_frame.proofs.Whole.{whole_of_block, whole_of_redecoded}
use Rattle.lr_reading.specs.Arrivals.{decoded_in, HasWholeFrame, arrival_in, arrival_of, arrivals_of_units, arrivals_of}
use Rattle.lr_reading.specs.Inputs.{unit_bytes, outcome_of_unit}
use Rattle.lr_reading.specs.Reading.{unit_of, units_of}
use Rattle.lr_reading.specs.declared.arrival.Arrival.{Arrival}
use Rattle.lr_forms.specs.declared.forms.Input.{Input}
use Rattle.lr_forms.specs.declared.forms.Input.TheVariants.{Symbols, Units}
use Rattle.lr_forms.specs.declared.forms.UnitForm.{UnitForm}
use Rattle.lr_forms.specs.declared.forms.UnitForm.TheVariants.{Blocks, Frames}

pub whole_window : (decoding : Decoding) (window : List ℤ) (outcome : Outcome) → outcome
    ≡ redecoded_outcome decoding.line decoding.passes window
    → HasWholeFrame outcome
whole_window decoding window (Lost word) is = tt
whole_window decoding window (Restored corrected frame) is = whole_of_redecoded decoding.line decoding.passes window
    frame corrected is

whole_block : (block : List ℕ) (outcome : Outcome) → outcome ≡ outcome_of_block block → HasWholeFrame outcome
whole_block block (Lost word) is = tt
whole_block block (Restored corrected frame) is = whole_of_block block frame corrected is

whole_unit : (form : UnitForm) (unit : List ℕ) → length unit ≡ unit_bytes form
    → HasWholeFrame (outcome_of_unit form unit)
whole_unit Blocks unit long = whole_block unit (outcome_of_block unit) refl
whole_unit Frames unit long = long

abbrev IsWhole : Arrival → Type 0
IsWhole arrival = HasWholeFrame arrival.outcome

whole_frames : (decoding : Decoding) (symbols : List ℤ) (frames : List Frame)
    → All (λ (arrival : Arrival). IsWhole arrival) (map (arrival_in decoding symbols) frames)
whole_frames decoding symbols [] = All-nil IsWhole
whole_frames decoding symbols (frame ∷ frames) =
    All-cons IsWhole (arrival_in decoding symbols frame) (map (arrival_in decoding symbols) frames)
    (whole_window decoding _ (decoded_in decoding symbols frame) refl) (whole_frames decoding symbols frames)

-- ---- units

-- each of these units of the bytes is there
long_units : (n : ℕ) (bytes : List ℕ) (first count : ℕ) → n * (first + count) ≤ length bytes
    → All (λ (unit : List ℕ). length unit ≡ n) (map (unit_of n bytes) (range_with_len first count))
long_units n bytes first zero fits = All-nil (λ (unit : List ℕ). length unit ≡ n)
long_units n bytes first (suc count) fits =
    let there : n ≤ length (drop (n * first) bytes) = omega (arith, length-drop (n * first) bytes, fits) in
    All-cons (λ (unit : List ℕ). length unit ≡ n) (unit_of n bytes first)
    (map (unit_of n bytes) (range_with_len (first + 1) count))
    (length-take-le n (drop (n * first) bytes) there)
    (long_units n bytes (first + 1) count (omega (arith, fits)))

whole_units : (form : UnitForm) (units : List (List ℕ)) → All (λ (unit : List ℕ). length unit ≡ unit_bytes form) units
    → All (λ (arrival : Arrival). IsWhole arrival) (arrivals_of_units form units)
unfolding arrivals_of_units
whole_units form [] long = All-nil IsWhole
whole_units form (unit ∷ units) long =
    All-cons IsWhole (arrival_of (outcome_of_unit form unit)) (arrivals_of_units form units)
    (whole_unit form unit (All-head (λ (u : List ℕ). length u ≡ unit_bytes form) unit units long))
    (whole_units form units (All-tail (λ (u : List ℕ). length u ≡ unit_bytes form) unit units long))

fit : (form : UnitForm) (bytes : List ℕ) → unit_bytes form * (0 + length bytes / unit_bytes form) ≤ length bytes
fit Blocks bytes = omega arith
fit Frames bytes = omega arith

-- each unit of the bytes is there
pub units_long : (form : UnitForm) (bytes : List ℕ)
    → All (λ (unit : List ℕ). length unit ≡ unit_bytes form) (units_of (unit_bytes form) bytes)
unfolding units_of
units_long form bytes = long_units (unit_bytes form) bytes 0 (length bytes / unit_bytes form) (fit form bytes)

pub all_whole : (input : Input) (bytes : List ℕ)
    → All (λ (arrival : Arrival). HasWholeFrame arrival.outcome) (arrivals_of input bytes)
unfolding arrivals_of
all_whole (Symbols decoding) bytes =
    whole_frames decoding (symbols_of bytes) (frames_of (tail_of decoding.line) (symbols_of bytes))
all_whole (Units form) bytes =
    whole_units form (units_of (unit_bytes form) bytes) (units_long form bytes)
