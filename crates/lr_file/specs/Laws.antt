-- Laws of files.
use Rattle.std.specs.Prelude.{◌≡◌, ◌≤◌, ◌+◌, ◌*◌, ◌==◌, ◌||◌, ℕ, if◌then◌else◌, List, [], ◌∷◌, ◌++◌, length, filter}
use Rattle.std.specs.Prelude.{option_to_list, All}
use Rattle.std.specs.List.{sum_by}
use Rattle.lr_bits.specs.File.{File, bytes_of}
use Rattle.lr_bits.specs.declared.sizes.TheConstants.{TRANSPORT_HEADER_BYTES}
use Rattle.lr_packet.specs.Verdict.{Good}
use Rattle.lr_file.specs.Files.{file_at, files_of_packets, is_file, last_stretches}
use Rattle.lr_file.specs.Standing.{is_open}

-- one packet more adds the file that ends with it, if one does
abbrev pub PacketAddsItsFile : Type 0
PacketAddsItsFile = (packets : List Good) (packet : Good) →
    files_of_packets (packets ++ packet ∷ []) ≡ files_of_packets packets ++ option_to_list (file_at packets packet)

-- the files of a prefix are a prefix of the files
abbrev pub FilesKeepTheirOrder : Type 0
FilesKeepTheirOrder = (packets later : List Good) →
    (more : List File) × (files_of_packets (packets ++ later) ≡ files_of_packets packets ++ more)

-- of the stretches that end with the same packet at most one is a file
abbrev pub OneFileEnds : Type 0
OneFileEnds = (packets : List Good) → length (filter is_file (last_stretches packets)) ≤ 1

-- of the stretches that end with the same packet at most one is an open file
abbrev pub OneFileIsOpen : Type 0
OneFileIsOpen = (packets : List Good) → length (filter is_open (last_stretches packets)) ≤ 1

-- how much the first packet of a file weighs, how much the last one, and how much each of them
pub record Weights : Type 0 where
  pub first : ℕ
  pub last : ℕ
  pub each : ℕ

-- the weight of a packet, with one for each byte of its body; a packet with the flags 3 is the first and the last one
abbrev pub packet_weight : Weights → Good → ℕ
packet_weight weights packet =
    (if (packet.flags == 1) || (packet.flags == 3) then weights.first else 0)
    + (if (packet.flags == 2) || (packet.flags == 3) then weights.last else 0)
    + weights.each + length packet.body

-- the weight of a file, with one for each of its bytes
abbrev pub file_weight : Weights → File → ℕ
file_weight weights file =
    weights.first + weights.last + weights.each * length file.bodies + length (bytes_of file)

-- the files of packets weigh at most what the packets do
abbrev pub FilesFitThePackets : Type 0
FilesFitThePackets = (weights : Weights) (packets : List Good) →
    sum_by (file_weight weights) (files_of_packets packets) ≤ sum_by (packet_weight weights) packets

-- each file has a body, and ten bytes
abbrev pub FilesAreSome : Type 0
FilesAreSome =
    (packets : List Good)
    → All (λ file. (1 ≤ length file.bodies) × (TRANSPORT_HEADER_BYTES ≤ length (bytes_of file)))
    (files_of_packets packets)
