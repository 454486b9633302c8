-- What becomes of a packet: the first rule that it breaks, or a good packet (CCSDS 133.0-B, section 4.1; the checksum
-- of CGMS 03). The packet type and the secondary header flag take no part.
use Rattle.std.specs.Prelude.{◌≡◌, ◌++◌, ℕ, ◌-◌, ◌==◌, if◌then◌else◌, nat_lt, not, List, length, take, drop, Result, Ok}
use Rattle.std.specs.Prelude.{Err}
use Rattle.std.specs.List.{filter_map}
use Rattle.std.specs.Result.{result_ok}
use Rattle.byteorder.specs.Endian.{big_number}
use Rattle.lr_bits.specs.Crc.{crc_of}
use Rattle.lr_bits.specs.Packet.{Packet}
use Rattle.lr_bits.specs.declared.sizes.TheConstants.{IDLE_APPLICATION}
use Rattle.lr_packet.specs.declared.packet.PacketFault.{PacketFault}
use Rattle.lr_packet.specs.declared.packet.PacketFault.TheVariants.{Version, Idle, TooShort, Crc}
use Rattle.lr_packet.specs.Head.{head_fields_of}

pub record Good : Type 0 where
  pub vc : ℕ
  pub apid : ℕ
  pub flags : ℕ
  pub count : ℕ
  pub body : List ℕ

abbrev pub data_of : List ℕ → List ℕ
data_of bytes = drop 6 bytes

-- the data field without its last two bytes
abbrev pub packet_body : List ℕ → List ℕ
packet_body bytes = take (length (data_of bytes) - 2) (data_of bytes)

-- the number in the last two bytes
abbrev pub stored_of : List ℕ → ℕ
stored_of bytes = big_number 2 (drop (length (data_of bytes) - 2) (data_of bytes))

abbrev pub good_of : Packet → Good
good_of packet = record {
  vc = packet.vc;
  apid = (head_fields_of packet.bytes).apid;
  flags = (head_fields_of packet.bytes).flags;
  count = (head_fields_of packet.bytes).count;
  body = packet_body packet.bytes;
}

abbrev pub verdict_of : Packet → Result Good PacketFault
verdict_of packet =
    if not ((head_fields_of packet.bytes).version == 0) then Err (Version (head_fields_of packet.bytes).version)
    else if (head_fields_of packet.bytes).apid == IDLE_APPLICATION then Err Idle
    else if nat_lt (length (data_of packet.bytes)) 2 then Err TooShort
    else if not (stored_of packet.bytes == crc_of (packet_body packet.bytes)) then Err
    (Crc (stored_of packet.bytes) (crc_of (packet_body packet.bytes)))
    else Ok (good_of packet)

-- the good ones of a list of packets, in their order
abbrev pub good_packets : List Packet → List Good
good_packets packets = filter_map (λ packet. result_ok (verdict_of packet)) packets

-- the good packets of two lists in a row
abbrev pub GoodPacketsAreJoined : Type 0
GoodPacketsAreJoined =
    (front back : List Packet) → good_packets (front ++ back) ≡ good_packets front ++ good_packets back
