-- How far an uplink has come: of a file that is being sent, and of all files.
use Rattle.std.specs.Prelude.{◌≡◌, ◌<◌, ℕ, ◌+◌, ◌*◌, ◌%◌, ◌^◌, ◌++◌, ◌==◌, if◌then◌else◌, List, [], ◌∷◌, length}
use Rattle.std.specs.Prelude.{drop, slice_index, unwrap_or, Option, Some, None}
use Rattle.std.specs.List.{concat}
use Rattle.lr_bits.specs.declared.sizes.TheConstants.{CHANNELS, SEQUENCE_COUNTS, ZONE_BYTES}
use Rattle.lr_bits.specs.File.{File, IsFile, bytes_of}
use Rattle.lr_file.specs.Standing.{AreAscending, kept_of_key}
use Rattle.lr_uplink.specs.declared.sending.Sending.{Sending}
use Rattle.lr_uplink.specs.Packets.{file_packets}
use Rattle.lr_uplink.specs.Pieces.{IsPacketAt, packet_bytes, size_of_packet}
use Rattle.lr_uplink.specs.Sent.{frames_before, packets_before, sent}

-- ---- a file while it is sent

-- these bytes of a file's packets are left to send, of which the first packet has this count
pub record IsUnsentPart (sending : Sending) (file : File) (count : ℕ) (rest : List ℕ) : Type 0 where
  pub is : IsFile file
  pub same : sending.file ≡ file
  pub counted : sending.count ≡ count
  pub packet : IsPacketAt (file_packets count file) (bytes_of file) sending.index sending.packet
  pub left : rest ≡ drop sending.sent (packet_bytes sending.packet (bytes_of file))
      ++ concat (drop (sending.index + 1) (file_packets count file))

-- these bytes of the file are left to send, and where some are, some are left of the packet that is being sent
pub record IsSending (sending : Sending) (file : File) (count : ℕ) (rest : List ℕ) : Type 0 where
  pub part : IsUnsentPart sending file count rest
  pub going : 0 < length rest → sending.sent < size_of_packet sending.packet

-- ---- all files

-- of each channel and application the number of packets is kept, modulo 2^16
pub record CountsStandFor (counts : List ((ℕ × ℕ) × ℕ)) (files : List File) : Type 0 where
  pub once : AreAscending counts
  pub each : (vc apid : ℕ) → unwrap_or (kept_of_key counts vc apid) 0 ≡ packets_before vc apid files % 2 ^ 16

-- a file is being sent, of which some frames were given
pub record IsFileUnderWay (counters : List ℕ) (sending : Sending) (files : List File) (given : ℕ) : Type 0 where
  pub before : List File
  pub file : File
  pub frames : ℕ
  pub loaded : files ≡ before ++ file ∷ []
  pub count : given ≡ length (sent before) + frames
  pub some : ZONE_BYTES * frames < length (concat (file_packets (packets_before file.vc file.apid before) file))
  pub left : IsSending sending file (packets_before file.vc file.apid before % SEQUENCE_COUNTS)
      (drop (ZONE_BYTES * frames) (concat (file_packets (packets_before file.vc file.apid before) file)))
  pub counted : (c : ℕ) → c < CHANNELS → slice_index counters c
      ≡ (frames_before c before + (if file.vc == c then frames else 0)) % 2 ^ 32

-- all files are sent
pub record IsAtRest (counters : List ℕ) (files : List File) (given : ℕ) : Type 0 where
  pub count : given ≡ length (sent files)
  pub counted : (c : ℕ) → c < CHANNELS → slice_index counters c ≡ frames_before c files % 2 ^ 32

abbrev pub SentFramesStandFor : List ℕ → Option Sending → List File → ℕ → Type 0
SentFramesStandFor counters None files given = IsAtRest counters files given
SentFramesStandFor counters (Some sending) files given = IsFileUnderWay counters sending files given
