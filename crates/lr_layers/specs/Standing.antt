-- What is kept of the outcomes so far.
use Rattle.std.specs.Prelude.{◌≡◌, ℕ, ◌≤◌, ◌*◌, Bool, true, false, List, [], ◌∷◌, ◌++◌, length, map}
use Rattle.lr_bits.specs.declared.outcome.Outcome.{Outcome}
use Rattle.lr_bits.specs.declared.placed.Placed.{Placed}
use Rattle.lr_vc.specs.declared.channels.TheConstants.{MOST_ENDING_PACKETS}
use Rattle.lr_vc.specs.Standing.{KeptChannels, ChannelsStandFor}
use Rattle.lr_mend.specs.MendedFiles.{KeptMended, MendedStandFor}
use Rattle.lr_layers.specs.declared.counts.Counts.{Counts}
use Rattle.lr_layers.specs.declared.starts.Start.{Start}
use Rattle.lr_layers.specs.Layers.{CountsView, mended_numbers_of, frames_of_outcomes, good_of_outcomes}
use Rattle.lr_layers.specs.Origins.{MarkedPlaced, fillers_in, marked_of_outcomes, mended_of_outcomes, packet_of}
use Rattle.lr_layers.specs.Origins.{placed_in, placed_packets}
use Rattle.lr_layers.specs.Starts.{Found, StartsStandFor, corrected_before, found_and}

-- the numbers that the program counts
abbrev pub numbers : Counts → CountsView
numbers c =
    record {
      restored = c.restored;
      lost = c.lost;
      bad_versions = c.bad_versions;
      fill = c.fill;
      packets = c.packets;
      files = c.files;
    }

-- of frames and packets what their layers keep, the starts of files that may be open, how many bytes were changed so
-- far, the numbers so far, and whether memory was wanting
pub record KeptLayers : Type 0 where
  pub spent : Bool
  pub channels : KeptChannels
  pub files : KeptMended
  pub starts : List ((ℕ × ℕ) × Start)
  pub corrected : ℕ
  pub numbers : CountsView

-- memory was wanting in an earlier call
abbrev pub AreLayersSpent : KeptLayers → Type 0
AreLayersSpent kept = kept.spent ≡ true

-- a frame is of another version or of fill once at most, and ends at most 885 packets; a packet ends at most one file,
-- and where fillers are allowed those before it end at most another one
pub record AreFew (mend : ℕ) (numbers : CountsView) : Type 0 where
  pub bad_versions : numbers.bad_versions ≤ numbers.restored
  pub fill : numbers.fill ≤ numbers.restored
  pub packets : numbers.packets ≤ MOST_ENDING_PACKETS * numbers.restored
  pub files : numbers.files ≤ 2 * numbers.packets
  pub plain : mend ≡ 0 → numbers.files ≤ numbers.packets

-- what is kept stands for these outcomes, where an image has at most `mend` fillers
pub record MendingLayersStandFor (mend : ℕ) (kept : KeptLayers) (outcomes : List Outcome) : Type 0 where
  pub most : kept.files.images.most ≡ mend
  pub unspent : kept.spent ≡ false
  pub channels : ChannelsStandFor kept.channels (frames_of_outcomes outcomes)
  pub files : MendedStandFor kept.files (good_of_outcomes outcomes)
  pub starts : StartsStandFor outcomes kept.starts (placed_packets outcomes)
  pub packets : map packet_of (placed_packets outcomes) ≡ good_of_outcomes outcomes
  pub corrected : kept.corrected ≡ corrected_before outcomes (length outcomes)
  pub numbers : kept.numbers ≡ mended_numbers_of mend outcomes

-- where none is mended
abbrev pub LayersStandFor : KeptLayers → List Outcome → Type 0
LayersStandFor kept outcomes = MendingLayersStandFor 0 kept outcomes

-- the files that one outcome more adds were appended, with their origins, and how many fillers each has, if counted
pub record AddsFound (mend : ℕ) (counted : Bool) (outcomes : List Outcome) (outcome : Outcome) (old new : Found)
    : Type 0 where
  pub more : List MarkedPlaced
  pub added : new ≡ found_and counted old more
  pub all : marked_of_outcomes mend (outcomes ++ outcome ∷ []) ≡ marked_of_outcomes mend outcomes ++ more

-- they were appended, and for each of them how many fillers it has
pub record AddsMarked (mend : ℕ) (outcomes : List Outcome) (outcome : Outcome) (old new : Found) : Type 0 where
  pub more : List MarkedPlaced
  pub files : new.files ≡ old.files ++ map placed_in more
  pub fillers : new.fillers ≡ old.fillers ++ map fillers_in more
  pub all : marked_of_outcomes mend (outcomes ++ outcome ∷ []) ≡ marked_of_outcomes mend outcomes ++ more

-- the files that one outcome more adds were appended, with their origins
pub record AddsMended (mend : ℕ) (outcomes : List Outcome) (outcome : Outcome) (old new : List Placed) : Type 0 where
  pub more : List Placed
  pub added : new ≡ old ++ more
  pub files : mended_of_outcomes mend (outcomes ++ outcome ∷ []) ≡ mended_of_outcomes mend outcomes ++ more

-- where none is mended
abbrev pub AddsFiles : List Outcome → Outcome → List Placed → List Placed → Type 0
AddsFiles outcomes outcome old new = AddsMended 0 outcomes outcome old new
