-- Packets that a channel sends one after another, cut into the zones of its frames (CCSDS 732.0-B, sections 4.1.2.5 and
-- 4.1.4.2: virtual channel frame count, packet zone and first header pointer; CCSDS 133.0-B, section 4.1.3.5: packet
-- length).
use Rattle.std.specs.Prelude.{◌≡◌, ◌<◌, ◌+◌, ◌*◌, ◌==◌, ℕ, List, [], ◌∷◌, ◌++◌, length, map, filter, slice_index, All}
use Rattle.std.specs.List.{concat, Contains}
use Rattle.lr_bits.specs.Packet.{length_field_at}
use Rattle.lr_bits.specs.declared.sizes.TheConstants.{ZONE_BYTES}
use Rattle.lr_vc.specs.Frame.{Fields}
use Rattle.lr_vc.specs.Packets.{packets_of}
use Rattle.lr_vc.specs.Runs.{next_counter}

-- a packet is as long as its length field says
abbrev pub TellsItsLength : List ℕ → Type 0
TellsItsLength packet = length packet ≡ 7 + length_field_at packet 0

-- this many bytes are those of the first ones of these packets
pub record IsEdge (packets : List (List ℕ)) (place : ℕ) : Type 0 where
  pub front : List (List ℕ)
  pub back : List (List ℕ)
  pub split : packets ≡ front ++ back
  pub size : length (concat front) ≡ place

-- the frames of a channel, in their order
abbrev pub frames_of_channel : ℕ → List Fields → List Fields
frames_of_channel channel frames = filter (λ frame. frame.vc == channel) frames

-- the counter of each frame follows that of the one before
abbrev pub AreCountedOn : List Fields → Type 0
AreCountedOn [] = Unit {0}
AreCountedOn (frame ∷ []) = Unit {0}
AreCountedOn (frame ∷ next ∷ frames) = (next.counter ≡ next_counter frame.counter) × AreCountedOn (next ∷ frames)

-- Neighbours of one channel carry these packets: their zones, joined, are the first bytes of the packets, and a pointer
-- that points into its zone points at a place where a packet begins, or the last one ends.
pub record CarryPackets (frames : List Fields) (packets : List (List ℕ)) : Type 0 where
  pub counted : AreCountedOn frames
  pub later : List ℕ
  pub bytes : concat packets ≡ concat (map (λ frame. frame.zone) frames) ++ later
  pub pointers : (zone : ℕ) → zone < length frames → slice_index (map (λ frame. frame.pointer) frames) zone < ZONE_BYTES
      → IsEdge packets (ZONE_BYTES * zone + slice_index (map (λ frame. frame.pointer) frames) zone)

-- the law: where the frames of a channel carry packets that tell their lengths, each packet that comes of the channel
-- is one of these
abbrev pub PacketsWereSent : Type 0
PacketsWereSent =
    (channel : ℕ) (frames : List Fields) (packets : List (List ℕ)) → All TellsItsLength packets →
    CarryPackets (frames_of_channel channel frames) packets →
    All (λ packet. packet.vc ≡ channel → Contains packets packet.bytes) (packets_of frames)
