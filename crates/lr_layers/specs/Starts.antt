-- What is kept of the packets that begin files, and what packets that are pushed one after another add. The contracts
-- of the private functions cite these words.
use Rattle.std.specs.Prelude.{◌≡◌, ℕ, ◌+◌, Bool, if◌then◌else◌, Some, List, []}
use Rattle.std.specs.Prelude.{◌++◌, map, sum_by, take}
use Rattle.std.specs.Option.{option_map}
use Rattle.lr_bits.specs.declared.outcome.Outcome.{Outcome}
use Rattle.lr_bits.specs.declared.placed.Placed.{Placed}
use Rattle.lr_packet.specs.Verdict.{Good}
use Rattle.lr_file.specs.Standing.{AreAscending, kept_of_key}
use Rattle.lr_mend.specs.MendedFiles.{MendedStandFor}
use Rattle.lr_file.specs.Steps.{SetsKey}
use Rattle.lr_layers.specs.declared.starts.Start.{Start}
use Rattle.lr_layers.specs.declared.starts.Now.{Now}
use Rattle.lr_layers.specs.declared.packets.Joiner.{Joiner}
use Rattle.lr_layers.specs.Origins.{PlacedPacket, packet_of, at_place, placed_of_key, placed_files_after, corrected_in}
use Rattle.lr_layers.specs.Origins.{MarkedPlaced, begins, fillers_in, latest_start, placed_in}

-- how many bytes were changed in the first outcomes
unfoldable pub corrected_before : List Outcome → ℕ → ℕ
corrected_before outcomes count = sum_by corrected_in (take count outcomes)

-- a packet's start was noted, if it begins a file
abbrev pub NotesStart : List ((ℕ × ℕ) × Start) → List ((ℕ × ℕ) × Start) → Good → Start → Type 0
NotesStart old new packet now =
    SetsKey old new packet (if begins packet then Some now else kept_of_key old packet.vc packet.apid)

-- where a packet ends, and how many bytes were changed before that outcome
abbrev pub start_in : List Outcome → PlacedPacket → Start
start_in outcomes p = record { place = p.place; corrected = corrected_before outcomes p.place }

-- of each channel and application the start of the latest packet that begins a file is kept, once
pub record StartsStandFor (outcomes : List Outcome) (kept : List ((ℕ × ℕ) × Start))
    (placed : List PlacedPacket) : Type 0 where
  pub once : AreAscending kept
  pub starts : (vc apid : ℕ) →
      kept_of_key kept vc apid ≡ option_map (start_in outcomes) (latest_start (placed_of_key vc apid placed))

-- the outcome at hand is one of these
pub record IsNow (outcomes : List Outcome) (now : Now) : Type 0 where
  pub before : now.start.corrected ≡ corrected_before outcomes now.start.place
  pub after : now.corrected ≡ corrected_before outcomes (now.start.place + 1)

-- the open files and their starts are those of these packets, which end in some of the outcomes
pub record JoinerStandsFor (joiner : Joiner) (outcomes : List Outcome) (packets : List PlacedPacket) : Type 0 where
  pub files : MendedStandFor joiner.files (map packet_of packets)
  pub starts : StartsStandFor outcomes joiner.starts packets

-- an image may have `mend` fillers, which are counted or not, the outcome at hand is the one at `place`, and these
-- packets came before
pub record AtHand : Type 0 where
  pub mend : ℕ
  pub counted : Bool
  pub outcomes : List Outcome
  pub place : ℕ
  pub before : List PlacedPacket

-- the files that were found, and how many fillers each of them has, where that is counted
pub record Found : Type 0 where
  pub files : List Placed
  pub fillers : List ℕ

abbrev pub found : List Placed → List ℕ → Found
found files fillers = record { files = files; fillers = fillers }

-- with these more
abbrev pub found_and : Bool → Found → List MarkedPlaced → Found
found_and counted old more =
    found (old.files ++ map placed_in more) (old.fillers ++ (if counted then map fillers_in more else []))

-- good packets that end in the outcome at hand were joined, and the files that end with them appended, with their
-- origins
pub record Joins (at : AtHand) (good : List Good) (joiner : Joiner) (old new : Found) : Type 0 where
  pub stands : JoinerStandsFor joiner at.outcomes (at.before ++ at_place at.place good)
  pub more : List MarkedPlaced
  pub added : new ≡ found_and at.counted old more
  pub all : placed_files_after at.mend at.outcomes at.before (at_place at.place good) ≡ more
