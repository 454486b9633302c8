-- The packets that a file is sent in, and the idle packet after them (CCSDS 133.0-B, section 4.1; the checksum and the
-- sequence flags of CGMS 03, the transport layer).
use Rattle.std.specs.Prelude.{ℕ, ◌+◌, ◌-◌, ◌%◌, ◌++◌, ◌==◌, nat_lt, if◌then◌else◌, List, [], ◌∷◌, length, map}
use Rattle.std.specs.Prelude.{replicate, slice_index_or}
use Rattle.std.specs.List.{concat, range_with_len}
use Rattle.lr_bits.specs.declared.sizes.TheConstants.{IDLE_APPLICATION, SEQUENCE_COUNTS, ZONE_BYTES}
use Rattle.lr_bits.specs.File.{File}
use Rattle.lr_make.specs.Packets.{head_with, packet_for_body}

-- the sequence flags of body j of n: 3 where there is no other, else 1 for the first, 2 for the last, 0 for those
-- between
abbrev pub flags_at : ℕ → ℕ → ℕ
flags_at n j = if n == 1 then 3 else (if j == 0 then 1 else (if j + 1 == n then 2 else 0))

-- packet j of these bodies of an application, where the packet of the first one has this count; counts have 14 bits
abbrev pub body_packet : ℕ → ℕ → List (List ℕ) → ℕ → List ℕ
body_packet apid count bodies j =
    packet_for_body apid (flags_at (length bodies) j) ((count + j) % SEQUENCE_COUNTS) (slice_index_or bodies j [])

-- the packets of bodies, one for each
unfoldable pub body_packets : ℕ → ℕ → List (List ℕ) → List (List ℕ)
body_packets apid count bodies = map (body_packet apid count bodies) (range_with_len 0 (length bodies))

-- an idle packet of at least 7 bytes, with the flags 3, the count 0, and zeros in its data field
unfoldable pub idle_packet : ℕ → List ℕ
idle_packet size = head_with IDLE_APPLICATION 3 0 (size - 7) ++ replicate (size - 6) 0

-- how many bytes of its last zone this many bytes leave
abbrev pub bytes_left : ℕ → ℕ
bytes_left size = (ZONE_BYTES - size % ZONE_BYTES) % ZONE_BYTES

-- The idle packet that fills a zone of which this many bytes are left, if any are. Where they are fewer than a packet
-- has, it goes on to the end of the next zone.
abbrev pub idle_packets : ℕ → List (List ℕ)
idle_packets left = if left == 0 then [] else idle_packet (if nat_lt left 7 then left + ZONE_BYTES else left) ∷ []

-- packets, and the idle packet that fills their last zone
abbrev pub filled : List (List ℕ) → List (List ℕ)
filled packets = packets ++ idle_packets (bytes_left (length (concat packets)))

-- all packets of a file, the first of which has this count
abbrev pub file_packets : ℕ → File → List (List ℕ)
file_packets count file = filled (body_packets file.apid count file.bodies)
