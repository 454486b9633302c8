-- How a stream is led to its files. No clause of a public call cites this.
use Rattle.std.specs.Prelude.{◌≡◌, ◌<◌, ◌≤◌, ◌+◌, ◌-◌, ◌*◌, ℕ, ℤ, true, Option, Some, None, List, [], ◌∷◌, ◌++◌}
use Rattle.std.specs.Prelude.{length, map, take, cond}
use Rattle.lr_bits.specs.declared.outcome.Outcome.{Outcome}
use Rattle.lr_bits.specs.declared.placed.Placed.{Placed}
use Rattle.lr_bits.specs.declared.sizes.TheConstants.{FRAME_SYMBOLS}
use Rattle.lr_conv.specs.Marker.{tail_of}
use Rattle.lr_conv.specs.declared.line.LineCode.{LineCode}
use Rattle.lr_frame.specs.Outcomes.{redecoded_in}
use Rattle.lr_layers.specs.Origins.{placed_of_outcomes}
use Rattle.lr_layers.specs.Standing.{KeptLayers, LayersStandFor}
use Rattle.lr_lock.specs.Frames.{AreFrames}
use Rattle.lr_lock.specs.Standing.{LockState, LockStandsFor}
use Rattle.lr_lock.specs.Symbols.{symbols_of}
use Rattle.lr_conv.specs.declared.passes.Passes.TheVariants.{One}
use Rattle.lr_lock.specs.Windows.{WindowView, window_view}
use Rattle.lr_lock.specs.declared.frame.Frame.{Frame}

-- the lock was fed the first of these symbols, or finished where there are none
pub record FeedsMore (old new : LockState) (rest : List ℕ) (size : ℕ) : Type 0 where
  pub inside : size ≤ length rest
  pub fed : 0 < size → new ≡ record old { kept = old.kept ++ symbols_of (take size rest) }
  pub stands : 0 < size → (fed : List ℤ) (given : List Frame) → LockStandsFor old fed given
      → LockStandsFor new (fed ++ symbols_of (take size rest)) given
  pub ended : size ≡ 0 → rest ≡ []
  pub finished : size ≡ 0 → new ≡ record old { finished = true }
  pub closes : size ≡ 0 → (fed : List ℤ) (given : List Frame) → LockStandsFor old fed given
      → LockStandsFor new fed given

-- a stream of symbols, as bytes, under this line code
pub record CodedStream : Type 0 where
  pub line : LineCode
  pub symbols : List ℕ

abbrev pub coded_stream : LineCode → List ℕ → CodedStream
coded_stream line symbols = record { line = line; symbols = symbols }

-- how many symbols of a stream were fed, and the frames that were given by then
pub record GivenFrames : Type 0 where
  pub fed : ℕ
  pub frames : List Frame

abbrev pub given_frames : ℕ → List Frame → GivenFrames
given_frames fed frames = record { fed = fed; frames = frames }

module _ (stream : CodedStream) where
  -- these symbols were fed to a lock of this line code, and these frames given
  pub record IsFed (given : GivenFrames) (lock : LockState) : Type 0 where
    pub inside : given.fed ≤ length stream.symbols
    pub line_is : lock.line ≡ stream.line
    pub stands : LockStandsFor lock (symbols_of (take given.fed stream.symbols)) given.frames
    pub passed : FRAME_SYMBOLS * length given.frames + length lock.kept ≤ given.fed
    pub ended : lock.finished ≡ true → given.fed ≡ length stream.symbols

  -- what becomes of these frames in one pass, as far as the symbols were fed
  unfoldable pub outcomes_given : GivenFrames → List Outcome
  outcomes_given given =
      map (redecoded_in stream.line One (symbols_of (take given.fed stream.symbols))) given.frames

  -- more were fed, and what becomes of the frames given stays
  pub record DecodesOn (given : GivenFrames) (now : ℕ) (lock : LockState) : Type 0 where
    pub is_fed : IsFed (given_frames now given.frames) lock
    pub same : outcomes_given (given_frames now given.frames) ≡ outcomes_given given

  -- the next frame is shown, or all were given
  abbrev pub ShowsWindow : GivenFrames → LockState → WindowView → Option ℕ → Type 0
  ShowsWindow given lock window (Some now) =
      (frame : Frame) × IsFed (given_frames now (given.frames ++ frame ∷ [])) lock
      × (window ≡ window_view stream.line One (symbols_of (take now stream.symbols)) frame)
      × (outcomes_given (given_frames now given.frames) ≡ outcomes_given given)
  ShowsWindow given lock window None =
      AreFrames (tail_of stream.line) (symbols_of stream.symbols) given.frames
      × (outcomes_given (given_frames (length stream.symbols) given.frames) ≡ outcomes_given given)

-- what decreases with each step
abbrev pub decode_steps_left : List ℕ → ℕ → LockState → ℕ
decode_steps_left stream fed lock = 2 * (length stream - fed) + length lock.kept + cond lock.finished 0 1

-- of the frames given so far the layers have the outcomes, and the files are these
pub record IsDecodedSoFar (stream : CodedStream) (fed : ℕ) (lock : LockState) (layers : KeptLayers)
    (files : List Placed) : Type 0 where
  pub given : List Frame
  pub is_fed : IsFed stream (given_frames fed given) lock
  pub layers_stand : LayersStandFor layers (outcomes_given stream (given_frames fed given))
  pub files_are : files ≡ placed_of_outcomes (outcomes_given stream (given_frames fed given))
