-- The frames of a virtual channel, and their runs (CCSDS 732.0-B, section 4.1.2: virtual channel identifier and virtual
-- channel frame count). All frames stand in one list, in the order in which they came, and a place counts them from 0.
use Rattle.std.specs.Prelude.{◌≡◌, ℕ, ◌+◌, ◌%◌, Bool, false, List, [], ◌∷◌, length, if◌then◌else◌, ◌==◌}
use Rattle.std.specs.List.{All, filter, enumerate_from}
use Rattle.lr_bits.specs.declared.sizes.TheConstants.{FRAME_COUNTS, ZONE_BYTES}
use Rattle.lr_vc.specs.Frame.{Fields}

-- neighbours of one channel, each with its place among all frames
abbrev pub Run : Type 0
Run = List (ℕ × Fields)

-- the packet zone of a frame has 884 bytes
abbrev pub AreChannelFrames : List Fields → Type 0
AreChannelFrames frames = All (λ f. length f.zone ≡ ZONE_BYTES) frames

-- the counter that follows this one: counters have 24 bits
abbrev pub next_counter : ℕ → ℕ
next_counter counter = (counter + 1) % FRAME_COUNTS

-- the frames of a channel, each with its place among all frames
unfoldable pub channel_frames : ℕ → List Fields → List (ℕ × Fields)
channel_frames channel frames = filter (λ f. f.1.vc == channel) (enumerate_from 0 frames)

-- whether the first frame has this counter
abbrev pub begins_at : ℕ → Run → Bool
begins_at counter [] = false
begins_at counter (f ∷ fs) = f.1.counter == counter

-- A frame in front of these runs joins the first of them where that begins at the counter that follows the frame's,
-- and is a run of its own elsewhere.
unfoldable pub put_before : ℕ × Fields → List Run → List Run
put_before f [] = (f ∷ []) ∷ []
put_before f (run ∷ runs) =
    (if begins_at (next_counter f.1.counter) run then (f ∷ run) ∷ runs else (f ∷ []) ∷ run ∷ runs)

-- the runs: the longest stretches of neighbours in which each counter follows the one before
unfoldable pub runs_of : List (ℕ × Fields) → List Run
runs_of [] = []
runs_of (f ∷ fs) = put_before f (runs_of fs)
