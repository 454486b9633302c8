-- What comes of the input, piece by piece.
use Rattle.std.proofs.Common.{◌≡◌, ℕ, ℤ, ◌+◌, ◌-◌, ◌*◌, ◌/◌, ◌≤◌, ◌<◌, List, [], ◌∷◌, ◌++◌, length, map, take, ap}
use Rattle.std.proofs.Common.{◌∙◌, refl, sym, Option, Bool, true, false, None, append_assoc, length-append, length-drop}
use Rattle.std.proofs.Common.{subst, arith, All, ⊎_elim}
use Rattle.std.specs.List.{range_with_len}
use Rattle.std.specs.Prelude.{is_none}
use Rattle.std.proofs.lemmas.Bool.{cases_lt}
use Rattle.std.proofs.lemmas.List.FromFn.{length-range_with_len}
use Rattle.std.proofs.lemmas.List.{length-map, map-append}
use Rattle.lr_forms.specs.declared.forms.Decoding.{Decoding}
use Rattle.lr_bits.specs.declared.outcome.Outcome.{Outcome}
use Rattle.lr_conv.proofs.Tails.{tail_size}
use Rattle.lr_conv.specs.Marker.{tail_of}
use Rattle.lr_conv.specs.declared.line.LineCode.{LineCode}
use Rattle.lr_lock.specs.Frames.{AreNext, AreFrames, place_after_frame}
use Rattle.lr_lock.specs.FramesOf.{frames_of}
use Rattle.lr_lock.specs.Standing.{LockState, LockStandsFor}
use Rattle.lr_lock.specs.Symbols.{symbols_of}
use Rattle.lr_lock.specs.declared.frame.Frame.{Frame}
use Rattle.lr_bits.specs.declared.sizes.TheConstants.{FRAME_SYMBOLS}
use Rattle.lr_lock.specs.declared.sizes.TheConstants.{WINDOW_END}
use Rattle.lr_lock.proofs.Bytes.{symbols_of-append, length-symbols_of}
use Rattle.lr_lock.proofs.Existing.{frames_of-are, frames_once, given_are_prefix, prefix_stays}
use Rattle.lr_frame.specs.Outcomes.{redecoded_outcomes}
use Rattle.lr_frame.proofs.Given.{outcomes_stay}
use Rattle.lr_reading.specs.Arrivals.{decoded_in, arrival_in, arrival_of, arrivals_of_units, arrivals_of}
use Rattle.lr_reading.specs.Arrivals.{outcomes_of_arrivals}
use Rattle.lr_reading.specs.Feeding.{arrivals_given, EndsInFrame, HaveGivenAll, MayAsk}
use Rattle.lr_reading.specs.Inputs.{unit_bytes, outcome_of_unit, outcomes_of_units, outcomes_of_bytes}
use Rattle.lr_reading.specs.Readers.{EndShort, HaveCome}
use Rattle.lr_reading.specs.Reading.{unit_of, units_of}
use Rattle.lr_reading.specs.declared.arrival.Arrival.{Arrival}
use Rattle.lr_forms.specs.declared.forms.Input.{Input}
use Rattle.lr_forms.specs.declared.forms.Input.TheVariants.{Symbols, Units}
use Rattle.lr_forms.specs.declared.forms.UnitForm.{UnitForm}
use Rattle.lr_forms.specs.declared.forms.UnitForm.TheVariants.{Blocks, Frames}
use Rattle.lr_reading.proofs.Close.{ends_after}
use Rattle.lr_reading.proofs.Feeding.{same_arrivals}
use Rattle.lr_reading.proofs.Waiting.{at_next, few_in_lock, next_begins}

-- ---- their outcomes

outcomes_of_frames : (decoding : Decoding) (symbols : List ℤ) (frames : List Frame)
    → map (decoded_in decoding symbols) frames ≡ outcomes_of_arrivals (map (arrival_in decoding symbols) frames)
outcomes_of_frames decoding symbols [] = refl
outcomes_of_frames decoding symbols (frame ∷ frames) =
    ap (λ (l : List Outcome). decoded_in decoding symbols frame ∷ l) (outcomes_of_frames decoding symbols frames)

pub outcomes_of_units_are : (form : UnitForm) (units : List (List ℕ))
    → outcomes_of_units form units ≡ outcomes_of_arrivals (arrivals_of_units form units)
unfolding outcomes_of_units arrivals_of_units
outcomes_of_units_are form [] = refl
outcomes_of_units_are form (unit ∷ units) =
    ap (λ (l : List Outcome). outcome_of_unit form unit ∷ l) (outcomes_of_units_are form units)

pub outcomes_are : (input : Input) (bytes : List ℕ)
    → outcomes_of_bytes input bytes ≡ outcomes_of_arrivals (arrivals_of input bytes)
unfolding outcomes_of_bytes arrivals_of redecoded_outcomes
outcomes_are (Symbols decoding) bytes =
    outcomes_of_frames decoding (symbols_of bytes) (frames_of (tail_of decoding.line) (symbols_of bytes))
outcomes_are (Units form) bytes = outcomes_of_units_are form (units_of (unit_bytes form) bytes)

-- ---- units

pub arrivals_of_units-none : (form : UnitForm) → arrivals_of_units form [] ≡ []
unfolding arrivals_of_units
arrivals_of_units-none form = refl

pub arrivals_of_units-push : (form : UnitForm) (units : List (List ℕ)) (unit : List ℕ)
    → arrivals_of_units form (units ++ unit ∷ [])
    ≡ arrivals_of_units form units ++ arrival_of (outcome_of_unit form unit) ∷ []
unfolding arrivals_of_units
arrivals_of_units-push form units unit = map-append (λ u. arrival_of (outcome_of_unit form u)) units (unit ∷ [])

pub arrivals_of_units-append : (form : UnitForm) (units others : List (List ℕ))
    → arrivals_of_units form (units ++ others) ≡ arrivals_of_units form units ++ arrivals_of_units form others
unfolding arrivals_of_units
arrivals_of_units-append form units others = map-append (λ u. arrival_of (outcome_of_unit form u)) units others

pub arrivals_of_units-counted : (form : UnitForm) (units : List (List ℕ))
    → length (arrivals_of_units form units) ≡ length units
unfolding arrivals_of_units
arrivals_of_units-counted form units = length-map units (λ u. arrival_of (outcome_of_unit form u))

-- what comes of bytes is what comes of their units
pub units_come : (form : UnitForm) (bytes : List ℕ) (units : List (List ℕ)) → units_of (unit_bytes form) bytes ≡ units
    → arrivals_of (Units form) bytes ≡ arrivals_of_units form units
unfolding arrivals_of
units_come form bytes units is = ap (arrivals_of_units form) is

-- ---- windows

pub arrivals_given-none : (decoding : Decoding) (bytes : List ℕ) → arrivals_given decoding bytes [] ≡ []
unfolding arrivals_given
arrivals_given-none decoding bytes = refl

pub arrivals_given-push : (decoding : Decoding) (bytes : List ℕ) (given : List Frame) (frame : Frame)
    → arrivals_given decoding bytes (given ++ frame ∷ [])
    ≡ arrivals_given decoding bytes given ++ arrival_in decoding (symbols_of bytes) frame ∷ []
unfolding arrivals_given
arrivals_given-push decoding bytes given frame = map-append (arrival_in decoding (symbols_of bytes)) given (frame ∷ [])

pub arrivals_given-counted : (decoding : Decoding) (bytes : List ℕ) (given : List Frame)
    → length (arrivals_given decoding bytes given) ≡ length given
unfolding arrivals_given
arrivals_given-counted decoding bytes given = length-map given (arrival_in decoding (symbols_of bytes))

-- what comes of frames that were given is the first of what comes of the bytes
pub arrivals_first : (decoding : Decoding) (bytes : List ℕ) (given : List Frame)
    → AreNext (tail_of decoding.line) (symbols_of bytes) None given
    → (rest : List Arrival) × (arrivals_of (Symbols decoding) bytes ≡ arrivals_given decoding bytes given ++ rest)
unfolding arrivals_of arrivals_given
arrivals_first decoding bytes given next =
    let symbols : List ℤ = symbols_of bytes in
    let front : (rest : List Frame) × (frames_of (tail_of decoding.line) symbols ≡ given ++ rest) =
    given_are_prefix (tail_of decoding.line) symbols given (tail_size decoding.line) next in (
      map (arrival_in decoding symbols) front.0,
      ap (map (arrival_in decoding symbols)) front.1 ∙ map-append (arrival_in decoding symbols) given front.0,
    )

-- and no more come after it than stand whole in the lock
pub arrivals_few : (decoding : Decoding) (bytes : List ℕ) (given : List Frame) (lock : LockState)
    → LockStandsFor lock (symbols_of bytes) given → lock.line ≡ decoding.line
    → (rest : List Arrival) × (arrivals_of (Symbols decoding) bytes ≡ arrivals_given decoding bytes given ++ rest)
    × (FRAME_SYMBOLS * length rest ≤ length lock.kept)
unfolding arrivals_of arrivals_given
arrivals_few decoding bytes given lock stands line_is =
    let symbols : List ℤ = symbols_of bytes in
    let few : (rest : List Frame) × (frames_of (tail_of decoding.line) symbols ≡ given ++ rest)
    × (FRAME_SYMBOLS * length rest ≤ length lock.kept) =
    subst (λ (l : LineCode). (rest : List Frame) × (frames_of (tail_of l) symbols ≡ given ++ rest)
    × (FRAME_SYMBOLS * length rest ≤ length lock.kept)) line_is (few_in_lock lock symbols given stands) in (
      map (arrival_in decoding symbols) few.0,
      ap (map (arrival_in decoding symbols)) few.1 ∙ map-append (arrival_in decoding symbols) given few.0,
      omega (arith, few.2, length-map few.0 (arrival_in decoding symbols)),
    )

-- each whose window has come was given, where no whole window is kept
none_left : (decoding : Decoding) (bytes : List ℕ) (given : List Frame) (lock : LockState)
    → LockStandsFor lock (symbols_of bytes) given → lock.line ≡ decoding.line → length lock.kept < WINDOW_END
    → (count : ℕ)
    → HaveCome (Symbols decoding) (WINDOW_END - FRAME_SYMBOLS) bytes count → (rest : List Frame)
    → frames_of (tail_of decoding.line) (symbols_of bytes) ≡ given ++ rest → count ≤ length given
none_left decoding bytes given lock stands line_is looked count come [] split =
    omega (arith, come.0, ap (λ (l : List Frame). length l) split, length-append given [])
none_left decoding bytes given lock stands line_is looked count come (frame ∷ more) split = ⊎_elim (λ (few : count
    < length given). omega (arith, few)) (λ (many : length given ≤ count). ⊎_elim (λ (past : length given < count).
    let HasCome : Frame → Type 0 =
    λ (f : Frame). place_after_frame f + (WINDOW_END - FRAME_SYMBOLS) ≤ length bytes in
    let here : HasCome frame = at_next HasCome given more frame count past
    (subst (λ (l : List Frame). All HasCome (take count l)) split come.1) in
    absurd (omega (
      arith,
      here,
      looked,
      next_begins lock (symbols_of bytes) given more frame stands
          (subst (λ (l : LineCode). frames_of (tail_of l) (symbols_of bytes) ≡ given ++ frame ∷ more) (sym line_is)
          split),
      ap (λ (l : List ℤ). length l) stands.rest,
      length-drop lock.place (symbols_of bytes),
      length-symbols_of bytes,
    ))) (λ (all : count ≤ length given). all) (cases_lt (length given) count)) (cases_lt count (length given))

given_all : (decoding : Decoding) (bytes : List ℕ) (given : List Frame) (lock : LockState)
    → LockStandsFor lock (symbols_of bytes) given → lock.line ≡ decoding.line → length lock.kept < WINDOW_END
    → HaveGivenAll decoding (arrivals_given decoding bytes given) bytes
given_all decoding bytes given lock stands line_is looked =
    let few = arrivals_few decoding bytes given lock stands line_is in
    let front = given_are_prefix (tail_of decoding.line) (symbols_of bytes) given (tail_size decoding.line)
    (subst (λ (l : LineCode). AreNext (tail_of l) (symbols_of bytes) None given) line_is stands.frames) in
    record {
      rest = few.0;
      split = few.1;
      all = λ count come. omega (
        arith,
        none_left decoding bytes given lock stands line_is looked count come front.0 front.1,
        arrivals_given-counted decoding bytes given,
      );
    }

-- where the lock doesn't search, it stands right after the last frame
stands_after : (decoding : Decoding) (bytes : List ℕ) (given : List Frame) (lock : LockState) (held : Option Frame)
    → lock.held ≡ held → is_none held ≡ false
    → LockStandsFor lock (symbols_of bytes) given → lock.line ≡ decoding.line → length lock.kept < WINDOW_END
    → EndsInFrame decoding given bytes
stands_after decoding bytes given lock held is some stands line_is looked =
    let ends = ends_after bytes given lock held is some stands in
    let come = given_are_prefix (tail_of decoding.line) (symbols_of bytes) given (tail_size decoding.line)
    (subst (λ (l : LineCode). AreNext (tail_of l) (symbols_of bytes) None given) line_is stands.frames) in
    record {
      before = ends.before;
      frame = ends.frame;
      last = ends.last;
      near = omega (arith, ends.near, looked);
      others = come.0;
      come = come.1;
    }

-- so the source may be asked
pub may_ask : (IsUnderWay : Type 0) (decoding : Decoding) (bytes : List ℕ) (given : List Frame) (lock : LockState)
    (short : Bool) (pieces : List (List ℕ))
    → LockStandsFor lock (symbols_of bytes) given → lock.line ≡ decoding.line → length lock.kept < WINDOW_END
    → (EndShort pieces → short ≡ true) → (IsUnderWay → (is_none lock.held ≡ false) × (short ≡ false))
    → MayAsk decoding IsUnderWay bytes given bytes pieces
may_ask IsUnderWay decoding bytes given lock short pieces stands line_is looked said calm = (
  given_all decoding bytes given lock stands line_is looked,
  λ under_way. (
    stands_after decoding bytes given lock lock.held refl (calm under_way).0 stands line_is looked,
    λ ends. let clash : true ≡ false = sym (said ends) ∙ (calm under_way).1 in cc,
  ),
)

-- it is the first of what comes of more bytes too, where the windows are there
pub arrivals_go_on : (decoding : Decoding) (bytes more : List ℕ) (given : List Frame)
    → AreNext (tail_of decoding.line) (symbols_of bytes) None given
    → All (λ frame. frame.place + WINDOW_END ≤ length (symbols_of bytes)) given
    → (rest : List Arrival) × (arrivals_of (Symbols decoding) (bytes ++ more)
    ≡ arrivals_given decoding bytes given ++ rest)
unfolding arrivals_of arrivals_given
arrivals_go_on decoding bytes more given next sure =
    let tail = tail_of decoding.line in
    let some : List ℤ = symbols_of bytes in
    let all : List ℤ = some ++ symbols_of more in
    let front : (rest : List Frame) × (frames_of tail some ≡ given ++ rest) =
    given_are_prefix tail some given (tail_size decoding.line) next in
    let longer : (rest : List Frame) × (frames_of tail all ≡ frames_of tail some ++ rest) =
    prefix_stays tail some (symbols_of more) (tail_size decoding.line) in
    let others : List Arrival = map (arrival_in decoding all) (front.0 ++ longer.0) in (
      others,
      ap (λ (s : List ℤ). map (arrival_in decoding s) (frames_of tail s)) (symbols_of-append bytes more)
          ∙ ap (map (arrival_in decoding all))
          (longer.1 ∙ ap (λ (fs : List Frame). fs ++ longer.0) front.1 ∙ append_assoc given front.0 longer.0)
          ∙ map-append (arrival_in decoding all) given (front.0 ++ longer.0)
          ∙ ap (λ (l : List Arrival). l ++ others)
          (same_arrivals decoding all some given (outcomes_stay decoding.line decoding.passes some
          (symbols_of more) given sure)),
    )

-- it is all that comes of the bytes, where all frames were given
pub arrivals_all : (decoding : Decoding) (bytes : List ℕ) (given : List Frame)
    → AreFrames (tail_of decoding.line) (symbols_of bytes) given
    → arrivals_of (Symbols decoding) bytes ≡ arrivals_given decoding bytes given
unfolding arrivals_of arrivals_given
arrivals_all decoding bytes given every =
    ap (map (arrival_in decoding (symbols_of bytes)))
    (frames_once (tail_of decoding.line) (symbols_of bytes) _ given (tail_size decoding.line)
    (frames_of-are (tail_of decoding.line) (symbols_of bytes)) every)

-- ---- whatever the form is

-- no more have come than come of the bytes
fits_units : (form : UnitForm) (beyond count total : ℕ) → count * unit_bytes form + beyond ≤ total
    → count ≤ total / unit_bytes form
fits_units Blocks beyond count total fits = omega (arith, fits)
fits_units Frames beyond count total fits = omega (arith, fits)

units_counted : (n : ℕ) (bytes : List ℕ) → length (units_of n bytes) ≡ length bytes / n
unfolding units_of
units_counted n bytes = length-map (range_with_len 0 (length bytes / n)) (unit_of n bytes)
    ∙ length-range_with_len 0 (length bytes / n)

pub frames_counted : (decoding : Decoding) (bytes : List ℕ)
    → length (arrivals_of (Symbols decoding) bytes) ≡ length (frames_of (tail_of decoding.line) (symbols_of bytes))
unfolding arrivals_of
frames_counted decoding bytes =
    length-map (frames_of (tail_of decoding.line) (symbols_of bytes)) (arrival_in decoding (symbols_of bytes))

pub come_within : (input : Input) (beyond : ℕ) (bytes : List ℕ) (count : ℕ) → HaveCome input beyond bytes count
    → count ≤ length (arrivals_of input bytes)
unfolding arrivals_of
come_within (Symbols decoding) beyond bytes count come = omega (arith, come.0, frames_counted decoding bytes)
come_within (Units form) beyond bytes count come = omega (
  arith,
  fits_units form beyond count (length bytes) come,
  arrivals_of_units-counted form (units_of (unit_bytes form) bytes),
  units_counted (unit_bytes form) bytes,
)

-- there is an outcome for each arrival
pub outcomes_counted : (input : Input) (bytes : List ℕ)
    → length (outcomes_of_bytes input bytes) ≡ length (arrivals_of input bytes)
outcomes_counted input bytes = ap (λ (l : List Outcome). length l) (outcomes_are input bytes)
    ∙ length-map (arrivals_of input bytes) (λ (arrival : Arrival). arrival.outcome)

-- nothing comes of no bytes
no_units : (form : UnitForm) → units_of (unit_bytes form) [] ≡ []
unfolding units_of
no_units Blocks = refl
no_units Frames = refl

pub no_arrivals : (input : Input) → arrivals_of input [] ≡ []
unfolding arrivals_of frames_of
no_arrivals (Symbols decoding) = refl
no_arrivals (Units form) = ap (arrivals_of_units form) (no_units form) ∙ arrivals_of_units-none form
