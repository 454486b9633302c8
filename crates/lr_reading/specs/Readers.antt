-- What a reader shows: the form of the input that it reads, how many work on its windows, the caller among them, the
-- most bytes that it takes of it, and what those who work share.
use Rattle.std.specs.Prelude.{ℕ, ◌⊎◌, ◌<◌, ◌≤◌, ◌+◌, ◌-◌, ◌*◌, ◌==◌, if◌then◌else◌, List, [], ◌∷◌, length}
use Rattle.std.specs.Prelude.{take, All}
use Rattle.lr_bits.specs.declared.sizes.TheConstants.{FRAME_SYMBOLS}
use Rattle.lr_conv.specs.Marker.{tail_of}
use Rattle.lr_lock.specs.Frames.{place_after_frame}
use Rattle.lr_lock.specs.FramesOf.{frames_of}
use Rattle.lr_lock.specs.Symbols.{symbols_of}
use Rattle.lr_lock.specs.Thresholds.{lock_symbols}
use Rattle.lr_lock.specs.declared.frame.Frame.{Frame}
use Rattle.lr_lock.specs.declared.sizes.TheConstants.{WINDOW_END}
use Rattle.lr_forms.specs.declared.forms.Input.{Input}
use Rattle.lr_forms.specs.declared.forms.Input.TheVariants.{Symbols, Units}
use Rattle.lr_reading.specs.Inputs.{outcomes_of_bytes, unit_bytes}

-- how many seats there are beside the caller's, how many cells the ring has, and how many windows go through it
pub record Shared : Type 0 where
  pub seats : ℕ
  pub cells : ℕ
  pub windows : ℕ

-- how many windows go through a ring where this many work, the caller among them: as many as there are cells, two for
-- each and two more. On one thread one is enough
abbrev pub windows_for : ℕ → ℕ
windows_for workers = if workers == 1 then 1 else 2 * workers + 2

-- what this many share, the caller among them: of symbols a seat for each of the others. Of units the caller works
-- alone
abbrev pub shared_by : Input → ℕ → Shared
shared_by (Symbols decoding) workers =
    record { seats = workers - 1; cells = 2 * workers + 2; windows = windows_for workers }
shared_by (Units form) workers = record { seats = 0; cells = 0; windows = 0 }

-- Of the frames, or of the blocks or frames of bytes, that come of these bytes the first ones, this many, have come,
-- and after each of them this many symbols or bytes more.
abbrev pub HaveCome : Input → (beyond : ℕ) → List ℕ → (count : ℕ) → Type 0
HaveCome (Symbols decoding) beyond bytes count =
    (count ≤ length (frames_of (tail_of decoding.line) (symbols_of bytes)))
    × All (λ (frame : Frame). place_after_frame frame + beyond ≤ length bytes)
    (take count (frames_of (tail_of decoding.line) (symbols_of bytes)))
HaveCome (Units form) beyond bytes count = count * unit_bytes form + beyond ≤ length bytes

-- The last one of these pieces is short, or there is none: it has fewer symbols than a frame. No call gives more than a
-- frame has, so a source that gave fewer may have nothing at hand, and one that gave as many may have more.
abbrev pub EndShort : List (List ℕ) → Type 0
EndShort [] = Unit {0}
EndShort (piece ∷ []) = length piece < FRAME_SYMBOLS
EndShort (piece ∷ next ∷ pieces) = EndShort (next ∷ pieces)

-- how many frames may wait for the consumer
pub record Leeway : Type 0 where
  -- how many symbols or bytes have to follow a frame before it counts
  pub tail : ℕ
  -- how many that count may wait when the source is asked, where the last piece was not short
  pub when_asked : ℕ
  -- how many of all may wait at the end, the one that the consumer is handed among them
  pub at_end : ℕ
  -- how many symbols or bytes have to follow a frame before it doesn't wait at the end
  pub ahead : ℕ

-- Where there are this many windows: a frame counts once the symbols after it have come that are the last ones of its
-- window, the next marker's first twelve. As the source is asked one window is spare. At the end three more frames may
-- stand whole in the lock. The lock keeps a frame less than it can hold after the last one whose window is given, and
-- takes at most what it can hold for each window before.
abbrev pub leeway_with : (windows : ℕ) → Leeway
leeway_with windows = record {
  tail = WINDOW_END - FRAME_SYMBOLS;
  when_asked = windows - 1;
  at_end = windows + 3;
  ahead = windows * lock_symbols - FRAME_SYMBOLS + 1;
}

-- where this many work; no block or frame of bytes waits for another call, or after another
abbrev pub leeway_for : Input → (workers : ℕ) → Leeway
leeway_for (Symbols decoding) workers = leeway_with (windows_for workers)
leeway_for (Units form) workers = record { tail = 0; when_asked = 0; at_end = 1; ahead = 1 }

-- At most this many frames may wait as the source is asked, which gave these bytes in these pieces: none where the last
-- piece is short, or where all frames ended a marker and a window ago, as in noise.
abbrev pub MayWait : Input → Leeway → List ℕ → List (List ℕ) → (few : ℕ) → Type 0
MayWait input leeway bytes pieces few = (leeway.when_asked ≤ few)
    ⊎ (EndShort pieces ⊎ HaveCome input WINDOW_END bytes (length (outcomes_of_bytes input bytes)))

pub record ReaderView : Type 0 where
  pub input : Input
  pub workers : ℕ
  pub most : ℕ
  pub shared : Shared
