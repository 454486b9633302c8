-- The bytes of a packet that is being sent, which are the file's but for its header and its checksum.
use Rattle.std.specs.Prelude.{◌≡◌, ◌<◌, ◌≤◌, ℕ, ◌+◌, ◌++◌, List, length, take, drop, replicate, slice_index_or, []}
use Rattle.std.specs.Prelude.{Option, MatchOption, Some, ◌==◌, ◌&&◌, if◌then◌else◌}
use Rattle.std.specs.Int.{bytes_high_first}
use Rattle.lr_file.specs.Standing.{AreAscending, kept_of_key}
use Rattle.lr_uplink.specs.declared.packet.Body.{Body}
use Rattle.lr_uplink.specs.declared.packet.Data.{Data}
use Rattle.lr_uplink.specs.declared.packet.Data.TheVariants.{FileBody, Zeros}
use Rattle.lr_uplink.specs.declared.packet.Packet.{Packet}

-- a body and its checksum, where these are the file's bytes
abbrev pub body_bytes : Body → List ℕ → List ℕ
body_bytes body bytes = take body.size (drop body.at bytes) ++ bytes_high_first 2 body.checksum

abbrev pub data_bytes : Data → List ℕ → List ℕ
data_bytes (FileBody body) bytes = body_bytes body bytes
data_bytes (Zeros size) bytes = replicate size 0

abbrev pub packet_bytes : Packet → List ℕ → List ℕ
packet_bytes packet bytes = packet.head ++ data_bytes packet.data bytes

-- how many bytes they are
abbrev pub data_size : Data → ℕ
data_size (FileBody body) = body.size + 2
data_size (Zeros size) = size

abbrev pub size_of_packet : Packet → ℕ
size_of_packet packet = 6 + data_size packet.data

-- where the body ends in the file's bytes
abbrev pub data_end : Data → ℕ
data_end (FileBody body) = body.at + body.size
data_end (Zeros size) = 0

abbrev pub end_of_packet : Packet → ℕ
end_of_packet packet = data_end packet.data

-- the packet is these bytes, where those are the file's
pub record Carries (packet : Packet) (bytes whole : List ℕ) : Type 0 where
  pub is : packet_bytes packet bytes ≡ whole
  pub size : size_of_packet packet ≡ length whole
  pub within : end_of_packet packet ≤ length bytes

-- the packet is this one of a file's packets
pub record IsPacketAt (packets : List (List ℕ)) (bytes : List ℕ) (index : ℕ) (packet : Packet) : Type 0 where
  pub there : index < length packets
  pub carries : Carries packet bytes (slice_index_or packets index [])

-- the packet at a place of a file's packets, if there is one
abbrev pub IsPacketOf : List (List ℕ) → List ℕ → ℕ → Option Packet → Type 0
IsPacketOf packets bytes index packet =
    MatchOption packet (length packets ≤ index) (IsPacketAt packets bytes index)

-- the count of one channel and application is set, and the others stay
pub record SetsCount (old new : List ((ℕ × ℕ) × ℕ)) (vc apid count : ℕ) : Type 0 where
  pub once : AreAscending new
  pub values : (c a : ℕ) → kept_of_key new c a ≡ (if (vc == c) && (apid == a) then Some count else kept_of_key old c a)
