-- The mission files in a list of outcomes, each with its origin: where in the list its packets end, and how many bytes
-- were changed there. Places count the outcomes from 0.
use Rattle.std.specs.Prelude.{ℕ, ◌+◌, ◌-◌, ◌==◌, ◌&&◌, List, [], ◌∷◌, ◌++◌, length, take, drop, map, filter, sum}
use Rattle.std.specs.Prelude.{sum_by, ◌||◌, Bool, Option, Some, None, unwrap_or, if◌then◌else◌}
use Rattle.std.specs.Option.{option_to_list}
use Rattle.lr_bits.specs.declared.outcome.Outcome.{Outcome}
use Rattle.lr_bits.specs.declared.outcome.Outcome.TheVariants.{Restored, Lost}
use Rattle.lr_bits.specs.declared.placed.Placed.{Placed}
use Rattle.lr_packet.specs.Verdict.{Good}
use Rattle.lr_bits.specs.declared.placed.Origin.{Origin}
use Rattle.lr_mend.specs.declared.marks.MarkedFile.{MarkedFile}
use Rattle.lr_mend.specs.MendedFiles.{file_of_packet, files_of_gap}
use Rattle.lr_layers.specs.Layers.{good_of_outcomes}

-- a good packet, and the place of the outcome in which it ends
pub record PlacedPacket : Type 0 where
  pub place : ℕ
  pub packet : Good

abbrev pub packet_of : PlacedPacket → Good
packet_of placed = placed.packet

abbrev pub at_place : ℕ → List Good → List PlacedPacket
at_place place packets = map (λ packet. record { place = place; packet = packet }) packets

-- the good packets that end in an outcome after these: those with it, less those before it
abbrev pub good_packets_ending : List Outcome → Outcome → List Good
good_packets_ending before outcome =
    drop (length (good_of_outcomes before)) (good_of_outcomes (before ++ outcome ∷ []))

-- the good packets that end in later outcomes, each at its place
abbrev pub placed_after : List Outcome → List Outcome → List PlacedPacket
placed_after before [] = []
placed_after before (outcome ∷ later) =
    at_place (length before) (good_packets_ending before outcome) ++ placed_after (before ++ outcome ∷ []) later

unfoldable pub placed_packets : List Outcome → List PlacedPacket
placed_packets outcomes = placed_after [] outcomes

-- how many bytes were changed in an outcome
abbrev pub corrected_in : Outcome → ℕ
corrected_in (Restored corrected frame) = sum corrected.0
corrected_in (Lost word) = 0

-- how many bytes were changed in all outcomes from one place to another, both included
unfoldable pub corrected_between : List Outcome → ℕ → ℕ → ℕ
corrected_between outcomes first last = sum_by corrected_in (take (last + 1 - first) (drop first outcomes))

-- the packets of one channel and application
abbrev pub placed_of_key : ℕ → ℕ → List PlacedPacket → List PlacedPacket
placed_of_key vc apid placed = filter (λ p. (p.packet.vc == vc) && (p.packet.apid == apid)) placed

-- a packet begins a file: it is the first of several, or all of it
abbrev pub begins : Good → Bool
begins packet = packet.flags == 1 || packet.flags == 3

-- the later one of two, if there is one
abbrev pub later_of : Option PlacedPacket → Option PlacedPacket → Option PlacedPacket
later_of first None = first
later_of first (Some later) = Some later

-- the latest of these packets that begins a file
abbrev pub latest_start : List PlacedPacket → Option PlacedPacket
latest_start [] = None
latest_start (p ∷ ps) = later_of (if begins p.packet then Some p else None) (latest_start ps)

-- The origin of a file whose end is found with a packet: from where the latest of these packets of its channel and
-- application ended that begins a file, or from there where none does.
abbrev pub origin_of : List Outcome → List PlacedPacket → PlacedPacket → Origin
origin_of outcomes placed last =
    let first = (unwrap_or (latest_start (placed_of_key last.packet.vc last.packet.apid placed)) last).place in
    record { first = first; last = last.place; corrected = corrected_between outcomes first last.place }

-- a file of mended packets with its origin, and how many fillers it has
pub record MarkedPlaced : Type 0 where
  pub placed : Placed
  pub fillers : ℕ

abbrev pub placed_in : MarkedPlaced → Placed
placed_in marked = marked.placed

abbrev pub fillers_in : MarkedPlaced → ℕ
fillers_in marked = marked.fillers

abbrev pub with_origin : Origin → MarkedFile → MarkedPlaced
with_origin origin marked =
    record { placed = record { file = marked.file; origin = origin }; fillers = marked.fillers }

-- the files that end with the fillers before a packet, and with the packet, where these came before it
abbrev pub placed_files_with : ℕ → List Outcome → List PlacedPacket → PlacedPacket → List MarkedPlaced
placed_files_with mend outcomes before last =
    map (with_origin (origin_of outcomes before last)) (files_of_gap mend (map packet_of before) last.packet)
    ++ map (with_origin (origin_of outcomes (before ++ last ∷ []) last))
    (option_to_list (file_of_packet mend (map packet_of before) last.packet))

-- for each packet in turn the files that end with it, where others came before
abbrev pub placed_files_after : ℕ → List Outcome → List PlacedPacket → List PlacedPacket → List MarkedPlaced
placed_files_after mend outcomes before [] = []
placed_files_after mend outcomes before (last ∷ packets) =
    placed_files_with mend outcomes before last ++ placed_files_after mend outcomes (before ++ last ∷ []) packets

-- all files, in the order of their last packets, where an image has at most `mend` fillers
unfoldable pub marked_of_outcomes : ℕ → List Outcome → List MarkedPlaced
marked_of_outcomes mend outcomes = placed_files_after mend outcomes [] (placed_packets outcomes)

-- the same without their numbers of fillers
abbrev pub mended_of_outcomes : ℕ → List Outcome → List Placed
mended_of_outcomes mend outcomes = map placed_in (marked_of_outcomes mend outcomes)

-- how many fillers each of them has
abbrev pub fillers_of_outcomes : ℕ → List Outcome → List ℕ
fillers_of_outcomes mend outcomes = map fillers_in (marked_of_outcomes mend outcomes)

-- all files, where none is mended
abbrev pub placed_of_outcomes : List Outcome → List Placed
placed_of_outcomes outcomes = mended_of_outcomes 0 outcomes
