-- The packets and files of outcomes that go on, and how much the files of outcomes weigh at most.
use Rattle.std.specs.Prelude.{◌≡◌, ◌≤◌, ◌-◌, ℕ, List, [], ◌∷◌, ◌++◌, length, map, All, Some, slice_index, unwrap_or}
use Rattle.std.specs.List.{sum_by}
use Rattle.lr_bits.specs.declared.outcome.Outcome.{Outcome}
use Rattle.lr_bits.specs.declared.placed.Placed.{Placed}
use Rattle.lr_bits.specs.File.{File, bytes_of}
use Rattle.lr_bits.specs.Packet.{Packet}
use Rattle.lr_bits.specs.declared.sizes.TheConstants.{TRANSPORT_HEADER_BYTES}
use Rattle.lr_vc.specs.Runs.{AreChannelFrames}
use Rattle.lr_vc.specs.Packets.{packets_of}
use Rattle.lr_packet.specs.Verdict.{Good}
use Rattle.lr_file.specs.Laws.{Weights, file_weight, packet_weight}
use Rattle.lr_layers.specs.Layers.{frames_of_outcomes, good_of_outcomes, files_of_outcomes}
use Rattle.lr_layers.specs.Origins.{MarkedPlaced, marked_of_outcomes, mended_of_outcomes, placed_of_outcomes}
use Rattle.lr_layers.specs.Origins.{PlacedPacket, latest_start, packet_of, placed_of_key}
use Rattle.lr_file.specs.Files.{file_at}

-- the packets, the good packets and the files of the first outcomes are the first ones
pub record GoOn (mend : ℕ) (outcomes later : List Outcome) : Type 0 where
  pub more_packets : List Packet
  pub packets : packets_of (frames_of_outcomes (outcomes ++ later)) ≡
      packets_of (frames_of_outcomes outcomes) ++ more_packets
  pub more_good : List Good
  pub good : good_of_outcomes (outcomes ++ later) ≡ good_of_outcomes outcomes ++ more_good
  pub more_marked : List MarkedPlaced
  pub marked : marked_of_outcomes mend (outcomes ++ later) ≡ marked_of_outcomes mend outcomes ++ more_marked
  pub more_files : List Placed
  pub files : mended_of_outcomes mend (outcomes ++ later) ≡ mended_of_outcomes mend outcomes ++ more_files

-- the files with origins are the files, where each frame has a zone of 884 bytes
abbrev pub FilesHaveOrigins : Type 0
FilesHaveOrigins = (outcomes : List Outcome) → AreChannelFrames (frames_of_outcomes outcomes) →
    map (λ placed. placed.file) (placed_of_outcomes outcomes) ≡ files_of_outcomes outcomes

-- where each frame has a zone of 884 bytes, as each of 892 bytes has
abbrev pub FilesGoOn : Type 0
FilesGoOn = (mend : ℕ) (outcomes later : List Outcome) → AreChannelFrames (frames_of_outcomes (outcomes ++ later))
    → GoOn mend outcomes later

-- the files of outcomes weigh at most what the good packets of the outcomes do
abbrev pub FilesFitTheOutcomes : Type 0
FilesFitTheOutcomes = (weights : Weights) (outcomes : List Outcome) →
    sum_by (file_weight weights) (files_of_outcomes outcomes)
    ≤ sum_by (packet_weight weights) (good_of_outcomes outcomes)

-- each file of outcomes has a body, and ten bytes
abbrev pub OutcomeFilesAreSome : Type 0
OutcomeFilesAreSome =
    (outcomes : List Outcome)
    → All (λ file. (1 ≤ length file.bodies) × (TRANSPORT_HEADER_BYTES ≤ length (bytes_of file)))
    (files_of_outcomes outcomes)

-- where the first packet of a file ends: the packets of the file are the last of these of its channel and application,
-- as many as it has bodies
abbrev pub first_place : List PlacedPacket → File → ℕ
first_place placed file =
    let places = map (λ p. p.place) (placed_of_key file.vc file.apid placed) in
    slice_index places (length places - length file.bodies)

-- a file of the packets that came has its origin from its first packet on
abbrev pub FirstPlaces : Type 0
FirstPlaces = (before : List PlacedPacket) (last : PlacedPacket) (file : File) →
    file_at (map packet_of before) last.packet ≡ Some file →
    (unwrap_or (latest_start (placed_of_key last.packet.vc last.packet.apid (before ++ last ∷ []))) last).place
    ≡ first_place (before ++ last ∷ []) file
