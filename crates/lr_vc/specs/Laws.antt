-- The packets of a history that grows.
use Rattle.std.specs.List.{Contains, sum_by, count_by}
use Rattle.std.specs.Prelude.{◌≡◌, List, [], ◌∷◌, ◌++◌, length, ℕ, ◌+◌, ◌*◌, ◌<◌, ◌≤◌, ◌==◌, not}
use Rattle.lr_bits.specs.Packet.{Packet}
use Rattle.lr_bits.specs.declared.sizes.TheConstants.{FILL_CHANNEL, ZONE_BYTES}
use Rattle.lr_vc.specs.Frame.{Fields}
use Rattle.lr_vc.specs.Runs.{AreChannelFrames, Run}
use Rattle.lr_vc.specs.Packets.{packets_at, packets_of, zones_of, packet_end, starts_in_zone}

-- one frame more adds exactly the packets that end in it
abbrev pub FramesAddTheirPackets : Type 0
FramesAddTheirPackets = (history : List Fields) (frame : Fields) → AreChannelFrames (history ++ frame ∷ []) →
    packets_of (history ++ frame ∷ []) ≡ packets_of history ++ packets_at (history ++ frame ∷ []) (length history)

-- the packets of the first frames are the first packets
abbrev pub PacketsKeepTheirOrder : Type 0
PacketsKeepTheirOrder = (history later : List Fields) → AreChannelFrames (history ++ later) →
    (more : List Packet) × (packets_of (history ++ later) ≡ packets_of history ++ more)

-- In each zone the starts go on: where the header at a start is there, and its packet ends before the end of the zone,
-- that end is a start of the zone too.
abbrev pub StartsGoOn : Type 0
StartsGoOn =
    (run : Run) (zone start : ℕ) → Contains (starts_in_zone run zone) start → start + 6 ≤ length (zones_of run) →
    packet_end (zones_of run) start < ZONE_BYTES * zone + ZONE_BYTES →
    Contains (starts_in_zone run zone) (packet_end (zones_of run) start)

-- the packets of frames have at most 884 bytes for each frame that isn't fill
abbrev pub PacketsFitTheZones : Type 0
PacketsFitTheZones = (frames : List Fields) → AreChannelFrames frames →
    sum_by (λ packet. length packet.bytes) (packets_of frames) ≤ ZONE_BYTES * count_by
    (λ frame. not (frame.vc == FILL_CHANNEL)) frames
