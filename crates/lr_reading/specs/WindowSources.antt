-- How windows are led from a source to a consumer. No clause of a public call cites this.
use Rattle.std.specs.Prelude.{◌≡◌, ◌⊎◌, ◌<◌, ◌≤◌, ◌+◌, ◌*◌, ◌^◌, ℕ, true, false, Option, Some, None}
use Rattle.std.specs.Prelude.{List, [], ◌∷◌, ◌++◌, length, map, take, drop, vec_len, vec_capacity}
use Rattle.std.specs.Prelude.{IsSome, Result}
use Rattle.std.specs.List.{All}
use Rattle.lr_forms.specs.declared.forms.Decoding.{Decoding}
use Rattle.lr_lock.specs.Thresholds.{lock_symbols}
use Rattle.lr_bits.specs.declared.sizes.TheConstants.{FRAME_BYTES}
use Rattle.lr_conv.specs.Marker.{tail_of}
use Rattle.lr_io.specs.declared.source.Source.{Ghosts as SourceOf}
use Rattle.lr_lock.specs.Frames.{AreFrames, place_after_frame}
use Rattle.lr_lock.specs.Symbols.{symbols_of}
use Rattle.lr_lock.specs.Windows.{WindowView}
use Rattle.lr_lock.specs.declared.frame.Frame.{Frame}
use Rattle.lr_frame.specs.Outcomes.{redecoded_outcome}
use Rattle.lr_forms.specs.declared.forms.Input.TheVariants.{Symbols}
use Rattle.lr_forms.specs.declared.forms.Stop.{Stop}
use Rattle.lr_rounds.specs.JobSources.{Led, SourceTerms}
use Rattle.lr_rounds.specs.declared.job_source.NextJob.{NextJob}
use Rattle.lr_rounds.specs.declared.job_source.NextJob.TheVariants.{Job, NotYet, Finished}
use Rattle.lr_reading.specs.Feeding.{FeedState, SymbolSource, Taken, symbols_from, symbols_left}
use Rattle.lr_reading.specs.Feeding.{taken_since, arrivals_given, most_kept, EndsWithin, MayAsk, FedSoFar}
use Rattle.lr_reading.specs.Readers.{Leeway, leeway_with}
use Rattle.lr_reading.specs.Reading.{LastCall, AtSource, WhenLastAsked, at_source}
use Rattle.lr_reading.specs.Runs.{ComeInTime, Course, Lent, TakesSome, IsLed, course_of, lent}
use Rattle.lr_reading.specs.declared.arrival.Arrival.{Arrival}
use Rattle.lr_reading.specs.declared.consumer.Consumer.{Ghosts as ConsumerOf}
use Rattle.lr_reading.specs.declared.intake.Intake.{Intake}
use Rattle.lr_reading.specs.declared.read_counts.ReadCounts.{ReadCounts}
use Rattle.lr_reading.specs.declared.window_source.WindowSource.{WindowSource}

-- where the frame of a window stands, and what becomes of it
abbrev pub arrival_of_window : WindowView → Arrival
arrival_of_window window = record {
  position = Some (record { place = window.position; positive = window.positive });
  outcome = redecoded_outcome window.line window.passes window.symbols;
}

-- a window is decoded so
abbrev pub IsFor : Decoding → WindowView → Type 0
IsFor decoding window = (window.line ≡ decoding.line) × (window.passes ≡ decoding.passes)

-- each window is
abbrev pub AreDecoded : Decoding → List WindowView → Type 0
AreDecoded decoding windows = All (IsFor decoding) windows

-- There are windows. Each is spare, or was given, and what became of it not kept
pub record HasWindows (given kept : ℕ) (intake : Intake) : Type 0 where
  pub some : 0 < vec_capacity intake.spare
  pub all : vec_len intake.spare + given ≡ vec_capacity intake.spare + kept

-- these arrivals are what becomes of the windows, and all windows are decoded so
pub record HasWindowJobs (decoding : Decoding) (arrivals : List Arrival) (windows : List WindowView) (kept : ℕ)
    (intake : Intake) : Type 0 where
  pub jobs : map arrival_of_window windows ≡ arrivals
  pub job_lines : AreDecoded decoding windows
  pub spare_lines : AreDecoded decoding intake.spare.items
  pub count : intake.frames ≡ kept

-- no frame comes after these, for this reason
pub record IsOver (decoding : Decoding) (bytes : List ℕ) (given : List Frame) (feed : FeedState) (stop : Stop)
    : Type 0 where
  pub closed : feed.lock.finished ≡ true
  pub stop_is : feed.stop ≡ stop
  pub every : AreFrames (tail_of decoding.line) (symbols_of bytes) given

-- the first arrivals, those that were kept
abbrev pub first_arrivals : Decoding → List ℕ → List Frame → ℕ → List Arrival
first_arrivals decoding bytes given kept = take kept (arrivals_given decoding bytes given)

-- no more windows are to come than this
abbrev pub left_to_feed : Option Stop → FeedState → ℕ
left_to_feed None feed = symbols_left feed
left_to_feed (Some stop) feed = 0

abbrev pub windows_left : Intake → ℕ
windows_left intake = left_to_feed intake.ended intake.feed

abbrev pub leeway_in : Intake → Leeway
leeway_in intake = leeway_with (vec_capacity intake.spare)

-- where the first of these frames ends, or else this place
abbrev pub end_of_first : List Frame → ℕ → ℕ
end_of_first [] place = place
end_of_first (frame ∷ frames) place = place_after_frame frame

-- each of these frames ends, and then this place comes, no further after the one before than the lock holds symbols
abbrev pub AreClose : List Frame → ℕ → Type 0
AreClose [] place = Unit {0}
AreClose (frame ∷ frames) place =
    (end_of_first frames place ≤ place_after_frame frame + lock_symbols) × AreClose frames place

-- ---- the input

-- what was taken, the windows that were given of its frames, and of how many of these it was kept what became
pub record Progress (S : Type 0) : Type 0 where
  pub taken : Taken S
  pub windows : List WindowView
  pub kept : ℕ

abbrev pub progress : {S : Type 0} → Taken S → List WindowView → ℕ → Progress S
progress taken windows kept = record { taken = taken; windows = windows; kept = kept }

module _ {S : Type 0} (symbols : SymbolSource S) where
  -- After these bytes the source wasn't asked; or only while a window was spare, and once the lock had looked
  abbrev pub LooksForSpare : Taken S → List ℕ → AtSource Intake S → S → Type 0
  LooksForSpare taken all old s' =
      ((all ≡ taken.bytes) × (s' ≡ old.source))
      ⊎ ((0 < vec_len old.state.spare) × LastCall symbols.source
      (MayAsk symbols.decoding (vec_len old.state.spare < vec_capacity old.state.spare) taken.bytes taken.given) all
      taken.first s')

-- what windows are filled from: these symbols, of which no more bytes than these are taken
pub record WindowStream (S : Type 0) : Type 1 where
  pub symbols : SymbolSource S
  pub limit : ℕ

abbrev pub stream_of : {S : Type 0} → SymbolSource S → ℕ → WindowStream S
stream_of symbols limit = record { symbols = symbols; limit = limit }

module _ {S : Type 0} (stream : WindowStream S) where
  -- these bytes were taken, these windows of frames of them given, and what became of the first ones kept
  pub record IsGiven (so_far : Progress S) (now : AtSource Intake S) : Type 0 where
    pub feeds : FedSoFar stream.symbols so_far.taken (at_source now.state.feed now.source)
    pub limit_is : now.state.feed.most ≡ stream.limit
    pub jobs : HasWindowJobs stream.symbols.decoding
        (arrivals_given stream.symbols.decoding so_far.taken.bytes so_far.taken.given) so_far.windows so_far.kept
        now.state
    pub over : (stop : Stop) → now.state.ended ≡ Some stop
        → IsOver stream.symbols.decoding so_far.taken.bytes so_far.taken.given now.state.feed stop
    -- three whole frames of 16,384 symbols at most stand in the lock
    pub short : now.state.ended ≡ None → length now.state.feed.lock.kept ≤ most_kept
    -- where no window is spare, nothing was taken since the last one was given
    pub full : vec_len now.state.spare ≡ 0 → EndsWithin most_kept so_far.taken.given so_far.taken.bytes

  -- more bytes were taken, and these windows are given now; what comes of the earlier ones stays
  pub record GivesMore (so_far : Progress S) (old new : AtSource Intake S) : Type 0 where
    pub all : List ℕ
    pub every : List Frame
    pub is_given : IsGiven (progress (taken_since so_far.taken.first all every) so_far.windows so_far.kept) new
    pub looks : LooksForSpare stream.symbols so_far.taken all old new.source
    pub rest : List Arrival
    pub grown : arrivals_given stream.symbols.decoding all every
        ≡ arrivals_given stream.symbols.decoding so_far.taken.bytes so_far.taken.given ++ rest
    -- frames whose windows are under way stay close, from the first one that is
    pub close : (first : ℕ) → first ≤ length so_far.taken.given
        → (first < length so_far.taken.given → vec_len old.state.spare < vec_capacity old.state.spare)
        → AreClose (drop first so_far.taken.given) (length so_far.taken.bytes)
        → AreClose (drop first every) (length all)

  -- the next window; or none while none is spare, or while some are under way; or none, as the input ended
  abbrev pub HasNextJob : NextJob WindowView → Progress S → AtSource Intake S → AtSource Intake S → Type 0
  HasNextJob (Job window) so_far old new =
      GivesMore (progress so_far.taken (so_far.windows ++ window ∷ []) so_far.kept) old new
  HasNextJob NotYet so_far old new =
      GivesMore so_far old new
      × ((vec_len old.state.spare ≡ 0) ⊎ (vec_len old.state.spare < vec_capacity old.state.spare))
  HasNextJob Finished so_far old new = GivesMore so_far old new × IsSome new.state.ended

-- how many windows are spare now, where one was given, and that fewer are left
abbrev pub LeavesFewer : NextJob WindowView → Intake → Intake → Type 0
LeavesFewer (Job window) old new = (vec_len new.spare + 1 ≡ vec_len old.spare)
    × (vec_capacity new.spare ≡ vec_capacity old.spare) × (windows_left new < windows_left old)
LeavesFewer NotYet old new = (vec_len new.spare ≡ vec_len old.spare)
    × (vec_capacity new.spare ≡ vec_capacity old.spare) × (windows_left new ≤ windows_left old)
LeavesFewer Finished old new = (vec_len new.spare ≡ vec_len old.spare)
    × (vec_capacity new.spare ≡ vec_capacity old.spare) × (windows_left new ≤ windows_left old)

-- ---- the consumer

module _ {C : Type 0} (took : C → List Arrival → C → Type 0) where
  -- the consumer may be handed one arrival more
  pub record MayHandOver (most : ℕ) (now : C) : Type 0 where
    pub first : C
    pub arrivals : List Arrival
    pub taken : took first arrivals now
    pub few : FRAME_BYTES * (length arrivals + 1) ≤ most

-- ---- both

-- how its symbols are decoded
abbrev pub decoding_of : Intake → Decoding
decoding_of intake = record { line = intake.feed.lock.line; passes = intake.passes }

abbrev pub decoding_in : {S C : Type 0} → WindowSource S C → Decoding
decoding_in now = decoding_of now.intake.now

-- what a job source is led through, from its first one on
abbrev pub course_from : {S C : Type 0} → SourceOf S → (C → List Arrival → C → Type 0) → WindowSource S C → Course S C
course_from source took start =
    course_of source took (Symbols (decoding_in start)) start.intake.now.feed.most (leeway_in start.intake.now)

-- what it was lent
abbrev pub lent_in : {S C : Type 0} → WindowSource S C → Lent S C
lent_in now = lent now.source.now now.consumer.now

module _ {S C Cause : Type 0} (source : SourceOf S) (consumer : ConsumerOf C Cause) where
  -- The job source was the first one and has given the windows led, and the consumer took what became of those kept
  pub record StandsAt (led : Led (WindowSource S C) WindowView) (now : WindowSource S C) : Type 0 where
    pub same_intake : now.intake.ghost_name ≡ led.start.intake.ghost_name
    pub same_source : now.source.ghost_name ≡ led.start.source.ghost_name
    pub same_consumer : now.consumer.ghost_name ≡ led.start.consumer.ghost_name
    pub few : led.start.intake.now.feed.most ≤ consumer.most
    pub small : led.start.intake.now.feed.most ≤ 2 ^ 61
    pub ready : (c : C) × consumer.took c [] led.start.consumer.now
    pub has_windows : HasWindows (length led.jobs) led.kept now.intake.now
    pub same_room : vec_capacity now.intake.now.spare ≡ vec_capacity led.start.intake.now.spare
    pub behind : led.kept ≤ length led.jobs
    pub bytes : List ℕ
    pub given : List Frame
    pub is_given : IsGiven (stream_of (symbols_from source (decoding_in led.start)) led.start.intake.now.feed.most)
        (progress (taken_since led.start.source.now bytes given) led.jobs led.kept)
        (at_source now.intake.now now.source.now)
    pub close : AreClose (drop led.kept given) (length bytes)
    pub in_time : WhenLastAsked source (ComeInTime (Symbols (decoding_in led.start)) (leeway_in led.start.intake.now) 0
        (first_arrivals (decoding_in led.start) bytes given led.kept)) bytes led.start.source.now now.source.now
    pub taken : (c : C) → consumer.took c [] led.start.consumer.now
        → consumer.took c (first_arrivals (decoding_in led.start) bytes given led.kept) now.consumer.now

  -- the job source was the first one, and the consumer stopped for this cause
  pub record StopsAt (start : WindowSource S C) (cause : Cause) (now : WindowSource S C) : Type 0 where
    pub same_intake : now.intake.ghost_name ≡ start.intake.ghost_name
    pub same_source : now.source.ghost_name ≡ start.source.ghost_name
    pub same_consumer : now.consumer.ghost_name ≡ start.consumer.ghost_name
    pub some : TakesSome (course_from source consumer.took start) consumer.stopped cause (lent_in start) (lent_in now)

  -- the job source was the first one. It was led to the end of the input, or to where the consumer stopped
  pub record ComesTo (came : Result ReadCounts Cause) (start now : WindowSource S C) : Type 0 where
    pub same_source : now.source.ghost_name ≡ start.source.ghost_name
    pub same_consumer : now.consumer.ghost_name ≡ start.consumer.ghost_name
    pub led : IsLed (course_from source consumer.took start) consumer.stopped came (lent_in start) (lent_in now)

  -- the terms on which it gives windows and keeps what becomes of them. It wants none put at once: the source may wait
  -- for symbols, and what is done goes out before that
  abbrev pub window_terms : SourceTerms (WindowSource S C) WindowView Cause
  window_terms = record {
    stands = StandsAt;
    stopped = StopsAt;
    is_over = λ now. IsSome now.intake.now.ended;
    left = λ now. windows_left now.intake.now;
    at_once = λ now. false;
  }
