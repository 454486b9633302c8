-- How far a consumer was led through what comes of the input.
use Rattle.std.specs.Prelude.{◌≡◌, ◌<◌, ◌≤◌, ◌+◌, ℕ, List, [], ◌++◌, length, take, Result, Ok, Err}
use Rattle.lr_forms.specs.declared.forms.Decoding.{Decoding}
use Rattle.lr_bits.specs.Faults.{Rose}
use Rattle.lr_io.specs.declared.source.Source.{Ghosts as SourceOf}
use Rattle.lr_reading.specs.Arrivals.{arrivals_of}
use Rattle.lr_reading.specs.Inputs.{bytes_left_over}
use Rattle.lr_reading.specs.Readers.{HaveCome, Leeway, MayWait}
use Rattle.lr_reading.specs.Reading.{IsRead, EndsFor, WhenLastAsked}
use Rattle.lr_reading.specs.declared.arrival.Arrival.{Arrival}
use Rattle.lr_forms.specs.declared.forms.Input.{Input}
use Rattle.lr_forms.specs.declared.forms.Input.TheVariants.{Symbols}
use Rattle.lr_reading.specs.declared.read_counts.ReadCounts.{ReadCounts}

-- These bytes were taken of an input of this form, which was to give no more than the limit. No more are to be had, and
-- this is what the totals tell of them.
pub record ReadsInput {S : Type 0} (source : SourceOf S) (input : Input) (limit : ℕ) (bytes : List ℕ)
    (totals : ReadCounts) (s s' : S) : Type 0 where
  pub read : IsRead source limit bytes s s'
  pub reason : EndsFor source totals.stop limit bytes s s'
  pub symbols : totals.symbols ≡ length bytes
  pub frames : totals.frames ≡ length (arrivals_of input bytes)
  pub left : totals.left ≡ bytes_left_over input bytes

-- As the source is asked, which gave these bytes in these pieces: of what comes of them the first ones that count, but
-- for the few that may wait, stand first among these arrivals, and this many at least come after them
abbrev pub ComeInTime : Input → Leeway → (after : ℕ) → List Arrival → List ℕ → List (List ℕ) → Type 0
ComeInTime input leeway after arrivals given pieces =
    (count few : ℕ) → MayWait input leeway given pieces few → HaveCome input leeway.tail given (count + few)
    → (later : List Arrival) × (arrivals ≡ take count (arrivals_of input given) ++ later) × (after ≤ length later)

-- What is led: what is said of the source, what the consumer says of the arrivals that it took, the form of the input,
-- the most bytes, and how few arrivals may wait
pub record Course (S C : Type 0) : Type 1 where
  pub source : SourceOf S
  pub took : C → List Arrival → C → Type 0
  pub input : Input
  pub limit : ℕ
  pub leeway : Leeway

-- the source and the consumer that a call is lent, at some moment
pub record Lent (S C : Type 0) : Type 0 where
  pub source : S
  pub consumer : C

module _ {S C : Type 0} where
  abbrev pub course_of : SourceOf S → (C → List Arrival → C → Type 0) → Input → ℕ → Leeway → Course S C
  course_of source took input limit leeway =
      record { source = source; took = took; input = input; limit = limit; leeway = leeway }

  abbrev pub lent : S → C → Lent S C
  lent s c = record { source = s; consumer = c }

module _ {S C : Type 0} (course : Course S C) where
  -- the input ended, and all that comes of it was taken
  pub record TakesAll (totals : ReadCounts) (before now : Lent S C) : Type 0 where
    pub bytes : List ℕ
    pub ends : ReadsInput course.source course.input course.limit bytes totals before.source now.source
    pub in_time : WhenLastAsked course.source
        (ComeInTime course.input course.leeway 0 (arrivals_of course.input bytes)) bytes before.source now.source
    pub taken : (c : C) → course.took c [] before.consumer
        → course.took c (arrivals_of course.input bytes) now.consumer

  -- The consumer stopped at the last one of these arrivals, which are the first ones of the bytes read. The source was
  -- read no further ahead than that this one, and those after it, are few. What counted when it was last asked was
  -- taken before that, but for the few that may wait.
  pub record TakesSome {Cause : Type 0} (stopped : C → List Arrival → Cause → C → Type 0) (cause : Cause)
      (before now : Lent S C) : Type 0 where
    pub bytes : List ℕ
    pub read : IsRead course.source course.limit bytes before.source now.source
    pub passed : List Arrival
    pub rest : List Arrival
    pub split : arrivals_of course.input bytes ≡ passed ++ rest
    pub near : length rest < course.leeway.at_end
    -- and it had taken all those after which so much came
    pub close : (count : ℕ) → 0 < count → HaveCome course.input course.leeway.ahead bytes count
        → count < length passed
    pub in_time : WhenLastAsked course.source (ComeInTime course.input course.leeway 1 passed) bytes before.source
        now.source
    pub stops : (c : C) → course.took c [] before.consumer → stopped c passed cause now.consumer
    -- of symbols they are the first ones of all that the source gives, where it had not failed nor reached the limit
    pub begins : (decoding : Decoding) → course.input ≡ Symbols decoding → course.source.tells before.source
        → length bytes < course.limit
        → (Rose (course.source.faults before.source) (course.source.faults now.source) → ⊥)
        → (later : List Arrival)
        × (arrivals_of course.input (bytes ++ course.source.left now.source) ≡ passed ++ later)

  -- how far it was led, whoever led it
  module _ {Cause : Type 0} (stopped : C → List Arrival → Cause → C → Type 0) where
    abbrev pub IsLed : Result ReadCounts Cause → Lent S C → Lent S C → Type 0
    IsLed (Ok totals) before now = TakesAll totals before now
    IsLed (Err cause) before now = TakesSome stopped cause before now
