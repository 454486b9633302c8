-- What one frame more does to a channel, in the terms of its zone alone. The contracts of the private functions cite
-- these words; that they agree with the definitions over whole runs is proved.
use Rattle.std.specs.Prelude.{ℕ, ◌+◌, Bool, true, false, not, ◌&&◌, Option, Some, None, List, [], ◌∷◌, ◌++◌, length}
use Rattle.std.specs.Prelude.{drop, map, if◌then◌else◌, ◌==◌, nat_lt, take, ◌≡◌}
use Rattle.std.specs.Option.{option_to_list}
use Rattle.std.specs.List.{filter, flat_map}
use Rattle.lr_bits.specs.Packet.{Packet}
use Rattle.lr_bits.specs.declared.sizes.TheConstants.{NO_PACKET_START, ZONE_BYTES}
use Rattle.lr_vc.specs.Frame.{Fields}
use Rattle.lr_vc.specs.Runs.{next_counter}
use Rattle.lr_vc.specs.Packets.{packet_end, is_whole, starts_from, packet_at}
use Rattle.lr_vc.specs.Standing.{KeptChannel}
use Rattle.lr_vc.specs.declared.channel.ZoneStart.{ZoneStart}
use Rattle.lr_vc.specs.declared.channel.ZoneStart.TheVariants.{At, Nowhere, Idle}

-- the newer list begins with the older one
abbrev pub KeepsPacketsBefore : List Packet → List Packet → Type 0
KeepsPacketsBefore old new = take (length old) new ≡ old

-- whether a counter follows the last one, if there is one
abbrev pub follows : Option ℕ → ℕ → Bool
follows None counter = false
follows (Some last) counter = counter == next_counter last

-- what a pointer says of the first packet that starts in its zone
abbrev pub zone_start_of : ℕ → ZoneStart
zone_start_of pointer = if nat_lt pointer ZONE_BYTES then At pointer else
    (if pointer == NO_PACKET_START then Nowhere else Idle)

abbrev pub is_nowhere : ZoneStart → Bool
is_nowhere (At place) = false
is_nowhere Nowhere = true
is_nowhere Idle = false

-- whether a packet of which this many bytes lie before a zone, and that ends at this place, ends as the zone's start
-- says
abbrev pub ends_at : ℕ → ℕ → ZoneStart → Bool
ends_at so_far end (At place) = nat_lt place ZONE_BYTES && end == so_far + place
ends_at so_far end Nowhere = end == so_far + ZONE_BYTES
ends_at so_far end Idle = false

-- whether an open packet ends with the next zone of its run, and the pointer of that zone agrees
unfoldable pub ends_with : List ℕ → List ℕ → ℕ → Bool
ends_with open_bytes zone pointer =
    (if packet_end (open_bytes ++ zone) 0 == length open_bytes + ZONE_BYTES
    then pointer == NO_PACKET_START
    else nat_lt pointer ZONE_BYTES && packet_end (open_bytes ++ zone) 0 == length open_bytes + pointer)

-- whether it goes on after that zone
unfoldable pub goes_on_after : List ℕ → List ℕ → ℕ → Bool
goes_on_after open_bytes zone pointer =
    nat_lt (length open_bytes + ZONE_BYTES) (packet_end (open_bytes ++ zone) 0) && pointer == NO_PACKET_START

-- the packet that an open one becomes, if any
unfoldable pub completed_packet : ℕ → List ℕ → ℕ → List ℕ → List Packet
completed_packet channel zone pointer open_bytes =
    (if ends_with open_bytes zone pointer then packet_at channel (open_bytes ++ zone) 0 ∷ [] else [])

-- the open packet that an open one becomes, if any
unfoldable pub continued_packet : List ℕ → ℕ → List ℕ → List (List ℕ)
continued_packet zone pointer open_bytes =
    (if goes_on_after open_bytes zone pointer then (open_bytes ++ zone) ∷ [] else [])

-- the starts in a zone, of which nothing else is known, from a place on
unfoldable pub starts_after : List ℕ → ℕ → List ℕ
starts_after zone first = starts_from zone ZONE_BYTES ZONE_BYTES first

-- the packets that lie in the zone, from a place on
unfoldable pub packets_inside : ℕ → List ℕ → ℕ → List Packet
packets_inside channel zone first = map (packet_at channel zone) (filter (is_whole zone) (starts_after zone first))

-- the starts from a place on whose packets aren't all there
unfoldable pub starts_unfinished : List ℕ → ℕ → List ℕ
starts_unfinished zone first = filter (λ start. not (is_whole zone start)) (starts_after zone first)

-- the open packets that a frame with this counter meets: the one that is kept, if the counter follows the one that is
-- kept
unfoldable pub met_by : KeptChannel → ℕ → List (List ℕ)
met_by channel counter = (if follows channel.counter counter then option_to_list channel.open_packet else [])

-- what a frame makes of the open packets that it meets: packets, and packets that are open after it
abbrev pub completed_packets : Fields → List (List ℕ) → List Packet
completed_packets frame met = flat_map (completed_packet frame.vc frame.zone frame.pointer) met

abbrev pub continued_packets : Fields → List (List ℕ) → List (List ℕ)
continued_packets frame met = flat_map (continued_packet frame.zone frame.pointer) met

-- the open packets that start in a frame's zone
abbrev pub opened_packets : Fields → List (List ℕ)
opened_packets frame = map (λ start. drop start frame.zone) (starts_unfinished frame.zone frame.pointer)

-- all packets that end in a frame which meets these, and all that are open after it
unfoldable pub packets_with : Fields → List (List ℕ) → List Packet
packets_with frame met =
    completed_packets frame met
    ++ (if nat_lt frame.pointer ZONE_BYTES then packets_inside frame.vc frame.zone frame.pointer else [])

unfoldable pub open_after : Fields → List (List ℕ) → List (List ℕ)
open_after frame met = continued_packets frame met ++
    (if nat_lt frame.pointer ZONE_BYTES then opened_packets frame else [])

-- no packet ends in the next frame of a channel, and none is open after it
pub record KeepsNothing (channel : KeptChannel) (frame : Fields) : Type 0 where
  pub none_ends : packets_with frame (met_by channel frame.counter) ≡ []
  pub none_open : open_after frame (met_by channel frame.counter) ≡ []

-- what is kept of a channel, before and after its next frame
pub record TakesFrame (old new : KeptChannel) (frame : Fields) : Type 0 where
  pub counter : new.counter ≡ Some frame.counter
  pub open_packet : option_to_list new.open_packet ≡ open_after frame (met_by old frame.counter)
