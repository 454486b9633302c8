-- The packets of a run (CCSDS 732.0-B, section 4.1.4.2: packet zone and first header pointer; CCSDS 133.0-B, section
-- 4.1: packet length). The zones of a run are joined, and places count their bytes: zone t has the places 884 t to 884
-- t + 883.
use Rattle.std.specs.Prelude.{ℕ, zero, suc, ◌+◌, ◌-◌, ◌*◌, ◌/◌, Bool, true, ◌&&◌, List, [], ◌∷◌, length, take, drop}
use Rattle.std.specs.Prelude.{map, slice_index, if◌then◌else◌, ◌==◌, nat_lt, nat_le}
use Rattle.std.specs.List.{filter, flat_map, list_all, enumerate_from, range_with_len}
use Rattle.lr_bits.specs.Packet.{Packet, length_field_at}
use Rattle.lr_bits.specs.declared.sizes.TheConstants.{FILL_CHANNEL, NO_PACKET_START, ZONE_BYTES}
use Rattle.lr_vc.specs.Frame.{Fields}
use Rattle.lr_vc.specs.Runs.{Run, runs_of, channel_frames}

-- the zones, one after the other
unfoldable pub zones_of : Run → List ℕ
zones_of run = flat_map (λ f. f.1.zone) run

-- the first header pointer of a zone
unfoldable pub pointer_of : Run → ℕ → ℕ
pointer_of run zone = slice_index (map (λ f. f.1.pointer) run) zone

-- the place, among all frames, of the frame of a zone
unfoldable pub place_of : Run → ℕ → ℕ
place_of run zone = slice_index (map (λ f. f.0) run) zone

-- where the packet that starts at a place ends: after the six bytes of its header and those of its data field
unfoldable pub packet_end : List ℕ → ℕ → ℕ
packet_end zones start = start + 7 + length_field_at zones start

-- whether the header of the packet that starts there, and then all of the packet, lies in these zones
unfoldable pub has_header : List ℕ → ℕ → Bool
has_header zones start = nat_le (start + 6) (length zones)

unfoldable pub is_whole : List ℕ → ℕ → Bool
is_whole zones start = has_header zones start && nat_le (packet_end zones start) (length zones)

-- A start before the edge, and with each start the end of its packet, if its header is there and that end is before
-- the edge too. A packet has at least seven bytes, so as many steps as a zone has bytes are enough.
unfoldable pub starts_from : List ℕ → ℕ → ℕ → ℕ → List ℕ
starts_from zones edge zero start = []
starts_from zones edge (suc steps) start =
    (if nat_lt start edge
    then start ∷ (if has_header zones start then starts_from zones edge steps (packet_end zones start) else [])
    else [])

-- The starts in a zone: from its pointer on, where that points into the zone. The pointers 884 to 2047 start nothing.
unfoldable pub starts_in_zone : Run → ℕ → List ℕ
starts_in_zone run zone =
    (if nat_lt (pointer_of run zone) ZONE_BYTES
    then starts_from (zones_of run) (ZONE_BYTES * zone + ZONE_BYTES) ZONE_BYTES
    (ZONE_BYTES * zone + pointer_of run zone)
    else [])

-- all starts of a run, in order
unfoldable pub starts_of : Run → List ℕ
starts_of run = flat_map (starts_in_zone run) (range_with_len 0 (length run))

-- the zones of a run after the one in which this place lies
unfoldable pub zones_after : Run → ℕ → List ℕ
zones_after run start = range_with_len (start / ZONE_BYTES + 1) (length run - (start / ZONE_BYTES + 1))

-- Whether a zone's pointer agrees with a packet from an earlier zone that ends at this place: no packet starts in the
-- zone where the packet covers it to its end, and the first one starts at the end of the packet where that is inside
-- the zone.
unfoldable pub agrees : Run → ℕ → ℕ → Bool
agrees run end zone =
    (if nat_le (ZONE_BYTES * zone + ZONE_BYTES) end
    then pointer_of run zone == NO_PACKET_START
    else (if nat_lt (ZONE_BYTES * zone) end then pointer_of run zone == end - ZONE_BYTES * zone else true))

-- whether the packet at a start is delivered: it is all there, and the pointer of each later zone agrees with it
unfoldable pub is_delivered : Run → ℕ → Bool
is_delivered run start =
    is_whole (zones_of run) start && list_all (agrees run (packet_end (zones_of run) start)) (zones_after run start)

-- the packet at a start
unfoldable pub packet_at : ℕ → List ℕ → ℕ → Packet
packet_at channel zones start =
    record { vc = channel; bytes = take (packet_end zones start - start) (drop start zones) }

-- whether the packet at a start is delivered and its last byte lies in the zone of the frame with this place
unfoldable pub ends_in : Run → ℕ → ℕ → Bool
ends_in run place start =
    is_delivered run start && place_of run ((packet_end (zones_of run) start - 1) / ZONE_BYTES) == place

-- the packets of a run that end in the frame with this place, in the order of their starts
unfoldable pub packets_ending : ℕ → ℕ → Run → List Packet
packets_ending channel place run = map (packet_at channel (zones_of run)) (filter (ends_in run place) (starts_of run))

-- the packets that end in a frame, which is given with its place among all frames: channel 63 is fill, and has none
unfoldable pub packets_in : List Fields → ℕ × Fields → List Packet
packets_in frames f =
    (if f.1.vc == FILL_CHANNEL
    then []
    else flat_map (packets_ending f.1.vc f.0) (runs_of (channel_frames f.1.vc frames)))

-- the packets that end in the frame with this place
unfoldable pub packets_at : List Fields → ℕ → List Packet
packets_at frames place = flat_map (packets_in frames) (filter (λ f. f.0 == place) (enumerate_from 0 frames))

-- all packets, in the order of the frames in which they end, and then of their starts
unfoldable pub packets_of : List Fields → List Packet
packets_of frames = flat_map (packets_in frames) (enumerate_from 0 frames)
