-- How the lock is fed with the symbols of the input. No clause of a public call cites this.
use Rattle.std.specs.Prelude.{◌≡◌, ◌⊎◌, ◌<◌, ◌≤◌, ◌+◌, ◌-◌, ◌*◌, ℕ, ℤ, Bool, true, false, Option, Some}
use Rattle.std.specs.Prelude.{None, List, [], ◌∷◌, ◌++◌, length, map, cond}
use Rattle.lr_forms.specs.declared.forms.Decoding.{Decoding}
use Rattle.lr_bits.specs.Faults.{Rose}
use Rattle.lr_bits.specs.declared.sizes.TheConstants.{FRAME_SYMBOLS}
use Rattle.lr_bits.specs.Telling.{KeepsTelling}
use Rattle.lr_conv.specs.Marker.{tail_of}
use Rattle.lr_io.specs.declared.source.Source.{Ghosts as SourceOf}
use Rattle.lr_lock.specs.declared.frame.Frame.{Frame}
use Rattle.lr_lock.specs.Frames.{AreFrames, place_after_frame}
use Rattle.lr_lock.specs.FramesOf.{frames_of}
use Rattle.lr_lock.specs.declared.sizes.TheConstants.{WINDOW_END}
use Rattle.lr_lock.specs.Standing.{LockState, LockStandsFor}
use Rattle.lr_lock.specs.Thresholds.{lock_symbols}
use Rattle.lr_lock.specs.Symbols.{symbols_of}
use Rattle.lr_lock.specs.Windows.{WindowView, window_view}
use Rattle.lr_forms.specs.declared.forms.Input.TheVariants.{Symbols}
use Rattle.lr_forms.specs.declared.forms.Stop.{Stop}
use Rattle.lr_forms.specs.declared.forms.Stop.TheVariants.{End, Limit, Fault}
use Rattle.lr_reading.specs.declared.next.Found.{Found}
use Rattle.lr_reading.specs.declared.next.Found.TheVariants.{Whole, Noise, Ended}
use Rattle.lr_reading.specs.Arrivals.{arrival_in, arrivals_of}
use Rattle.lr_reading.specs.Readers.{EndShort, HaveCome}
use Rattle.lr_reading.specs.Reading.{AsksOnce, CameInPieces, LastCall, AtSource, StopsAsking, EndsFor}
use Rattle.lr_reading.specs.declared.arrival.Arrival.{Arrival}

-- how many symbols the lock keeps at most after it gave a window: that window's frame stood in it too
abbrev pub most_kept : ℕ
most_kept = lock_symbols - FRAME_SYMBOLS

-- the lock, how many bytes were taken and the most that may be, whether the last call gave fewer than a frame has or
-- there was none yet, and why no more are taken
pub record FeedState : Type 0 where
  pub lock : LockState
  pub taken : ℕ
  pub most : ℕ
  pub short : Bool
  pub stop : Stop

-- the lock stands for some symbols and frames
abbrev pub IsStanding : LockState → Type 0
IsStanding lock = (fed : List ℤ) × (given : List Frame) × LockStandsFor lock fed given

-- what decreases with each feeding
abbrev pub steps_left : FeedState → ℕ
steps_left now = now.most - now.taken + cond now.lock.finished 0 1

-- the symbols that are to be fed or stand in the lock
abbrev pub symbols_left : FeedState → ℕ
symbols_left now = now.most - now.taken + length now.lock.kept

-- nothing was taken
pub record IsFreshFeed (most : ℕ) (now : FeedState) : Type 0 where
  pub stands : LockStandsFor now.lock [] []
  pub unfinished : now.lock.finished ≡ false
  pub taken : now.taken ≡ 0
  pub most_is : now.most ≡ most
  pub short : now.short ≡ true

-- what comes of these frames of the bytes
unfoldable pub arrivals_given : Decoding → List ℕ → List Frame → List Arrival
arrivals_given decoding bytes given = map (arrival_in decoding (symbols_of bytes)) given

-- what comes of these bytes begins with these arrivals, and each whose window has come is among them
pub record HaveGivenAll (decoding : Decoding) (first : List Arrival) (bytes : List ℕ) : Type 0 where
  pub rest : List Arrival
  pub split : arrivals_of (Symbols decoding) bytes ≡ first ++ rest
  pub all : (count : ℕ) → HaveCome (Symbols decoding) (WINDOW_END - FRAME_SYMBOLS) bytes count
      → count ≤ length first

-- the last one of these frames ends less than a marker and a window before the end of these bytes, of which all the
-- frames come
pub record EndsInFrame (decoding : Decoding) (given : List Frame) (bytes : List ℕ) : Type 0 where
  pub before : List Frame
  pub frame : Frame
  pub last : given ≡ before ++ frame ∷ []
  pub near : length bytes < place_after_frame frame + WINDOW_END
  pub others : List Frame
  pub come : frames_of (tail_of decoding.line) (symbols_of bytes) ≡ given ++ others

-- the last one of these frames ended this many symbols before the end of these bytes, at most
pub record EndsWithin (most : ℕ) (given : List Frame) (bytes : List ℕ) : Type 0 where
  pub before : List Frame
  pub frame : Frame
  pub last : given ≡ before ++ frame ∷ []
  pub near : length bytes ≤ place_after_frame frame + most

-- where more bytes were taken, they are no more than the lock holds after the last one of these frames
abbrev pub StaysNear : List ℕ → List Frame → List ℕ → Type 0
StaysNear bytes given all = (all ≡ bytes) ⊎ EndsWithin lock_symbols given all

-- The source may be asked after some bytes, which came in these pieces: each frame whose window has come is given; and
-- where windows are under way the lock doesn't search, and the last piece wasn't short
abbrev pub MayAsk : Decoding → Type 0 → List ℕ → List Frame → List ℕ → List (List ℕ) → Type 0
MayAsk decoding IsUnderWay bytes given some pieces = HaveGivenAll decoding (arrivals_given decoding bytes given) some
    × (IsUnderWay → EndsInFrame decoding given some × (EndShort pieces → ⊥))

-- a source of symbols: what is said of it, and how what it gives is decoded
pub record SymbolSource (S : Type 0) : Type 1 where
  pub source : SourceOf S
  pub decoding : Decoding

abbrev pub symbols_from : {S : Type 0} → SourceOf S → Decoding → SymbolSource S
symbols_from source decoding = record { source = source; decoding = decoding }

-- the bytes that were taken since the source was the first one, and the frames that were given of them
pub record Taken (S : Type 0) : Type 0 where
  pub first : S
  pub bytes : List ℕ
  pub given : List Frame

abbrev pub taken_since : {S : Type 0} → S → List ℕ → List Frame → Taken S
taken_since first bytes given = record { first = first; bytes = bytes; given = given }

module _ {S : Type 0} (source : SourceOf S) where
  -- a piece of the source was fed
  pub record FeedsPiece (before now : AtSource FeedState S) : Type 0 where
    pub piece : List ℕ
    pub some : 0 < length piece
    pub within : length piece ≤ FRAME_SYMBOLS
    pub lock_is : now.state.lock
        ≡ record (before.state.lock) { kept = before.state.lock.kept ++ symbols_of piece }
    pub stands : (fed : List ℤ) (given : List Frame) → LockStandsFor before.state.lock fed given
        → LockStandsFor now.state.lock (fed ++ symbols_of piece) given
    pub taken : now.state.taken ≡ before.state.taken + length piece
    pub short : length piece < FRAME_SYMBOLS → now.state.short ≡ true
    pub most_stays : now.state.most ≡ before.state.most
    pub few : now.state.taken ≤ now.state.most
    pub fits : length now.state.lock.kept ≤ lock_symbols
    pub tell : KeepsTelling (source.tells before.source) (source.tells now.source)
    pub moved : source.tells before.source → source.left before.source ≡ piece ++ source.left now.source
    pub kept : source.faults now.source ≡ source.faults before.source
    pub asked : AsksOnce source before.source piece now.source

  -- why nothing was fed
  abbrev pub FeedsNoneFor : Stop → FeedState → S → S → Type 0
  FeedsNoneFor End before s s' = (before.taken < before.most) × (source.tells s → source.left s' ≡ [])
      × (source.faults s' ≡ source.faults s)
  FeedsNoneFor Limit before s s' = (before.taken ≡ before.most) × (source.faults s' ≡ source.faults s)
  FeedsNoneFor Fault before s s' = (before.taken < before.most) × Rose (source.faults s) (source.faults s')

  -- nothing was fed
  pub record FeedsNone (stop : Stop) (before now : AtSource FeedState S) : Type 0 where
    pub same : now.state ≡ before.state
    pub tell : KeepsTelling (source.tells before.source) (source.tells now.source)
    pub moved : source.tells before.source → source.left now.source ≡ source.left before.source
    pub why : FeedsNoneFor stop before.state before.source now.source
    pub asked : (now.source ≡ before.source) ⊎ AsksOnce source before.source [] now.source

  abbrev pub FeedsOrStops : Option Stop → AtSource FeedState S → AtSource FeedState S → Type 0
  FeedsOrStops None before now = FeedsPiece before now
  FeedsOrStops (Some stop) before now = FeedsNone stop before now

module _ {S : Type 0} (symbols : SymbolSource S) where
  -- these bytes were taken, and these frames given of them
  pub record FedSoFar (so_far : Taken S) (now : AtSource FeedState S) : Type 0 where
    pub stands : LockStandsFor now.state.lock (symbols_of so_far.bytes) so_far.given
    pub line_is : now.state.lock.line ≡ symbols.decoding.line
    pub long : now.state.taken ≡ length so_far.bytes
    pub few : now.state.taken ≤ now.state.most
    pub passed : FRAME_SYMBOLS * length so_far.given + length now.state.lock.kept ≤ now.state.taken
    pub tell : KeepsTelling (symbols.source.tells so_far.first) (symbols.source.tells now.source)
    pub moved : symbols.source.tells so_far.first
        → symbols.source.left so_far.first ≡ so_far.bytes ++ symbols.source.left now.source
    pub asked : StopsAsking symbols.source so_far.bytes so_far.first now.source
    pub going_on : now.state.lock.finished ≡ false
        → (came : CameInPieces symbols.source so_far.bytes so_far.first now.source)
        × (EndShort came.0 → now.state.short ≡ true)
    pub ended : now.state.lock.finished ≡ true
        → EndsFor symbols.source now.state.stop now.state.most so_far.bytes so_far.first now.source

  -- after these bytes the source wasn't asked, or only once the lock had looked
  abbrev pub LooksFirst : Type 0 → AtSource (Taken S) S → List ℕ → S → Type 0
  LooksFirst IsUnderWay before all s' =
      ((all ≡ before.state.bytes) × (s' ≡ before.source))
      ⊎ LastCall symbols.source (MayAsk symbols.decoding IsUnderWay before.state.bytes before.state.given) all
      before.state.first s'

  -- more bytes were taken; what comes of the frames given stays
  pub record FeedsOn (IsUnderWay : Type 0) (before : AtSource (Taken S) S) (now : AtSource FeedState S) : Type 0 where
    pub all : List ℕ
    pub so_far : FedSoFar (taken_since before.state.first all before.state.given) now
    pub looks : LooksFirst IsUnderWay before all now.source
    pub near : IsUnderWay → StaysNear before.state.bytes before.state.given all
    pub same : arrivals_given symbols.decoding all before.state.given
        ≡ arrivals_given symbols.decoding before.state.bytes before.state.given

  -- the next frame was given
  pub record GivesFrame (IsUnderWay : Type 0) (before : AtSource (Taken S) S) (window : WindowView)
      (now : AtSource FeedState S) : Type 0 where
    pub all : List ℕ
    pub frame : Frame
    pub so_far : FedSoFar (taken_since before.state.first all (before.state.given ++ frame ∷ [])) now
    pub looks : LooksFirst IsUnderWay before all now.source
    pub near : IsUnderWay → StaysNear before.state.bytes before.state.given all
    pub whole : place_after_frame frame ≤ length all
    pub ahead : length all ≤ place_after_frame frame + most_kept
    pub window_is : window ≡ window_view symbols.decoding.line symbols.decoding.passes (symbols_of all) frame
    pub same : arrivals_given symbols.decoding all before.state.given
        ≡ arrivals_given symbols.decoding before.state.bytes before.state.given

  -- there is none: all frames were given
  pub record EndsFrames (IsUnderWay : Type 0) (stop : Stop) (before : AtSource (Taken S) S)
      (now : AtSource FeedState S)
      : Type 0 where
    pub all : List ℕ
    pub so_far : FedSoFar (taken_since before.state.first all before.state.given) now
    pub looks : LooksFirst IsUnderWay before all now.source
    pub near : IsUnderWay → StaysNear before.state.bytes before.state.given all
    pub closed : now.state.lock.finished ≡ true
    pub stop_is : now.state.stop ≡ stop
    pub every : AreFrames (tail_of symbols.decoding.line) (symbols_of all) before.state.given
    pub same : arrivals_given symbols.decoding all before.state.given
        ≡ arrivals_given symbols.decoding before.state.bytes before.state.given

  abbrev pub Feeds : Type 0 → Found → AtSource (Taken S) S → WindowView → AtSource FeedState S → Type 0
  Feeds IsUnderWay Whole before window now = GivesFrame IsUnderWay before window now
  Feeds IsUnderWay Noise before window now = FeedsOn IsUnderWay before now × IsUnderWay
  Feeds IsUnderWay (Ended stop) before window now = EndsFrames IsUnderWay stop before now
