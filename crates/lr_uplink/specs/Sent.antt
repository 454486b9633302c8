-- The transfer frames that files are sent in, one file after another (CCSDS 732.0-B, section 4.1).
use Rattle.std.specs.Prelude.{ℕ, ◌+◌, ◌-◌, ◌*◌, ◌/◌, ◌%◌, ◌^◌, ◌++◌, ◌==◌, ◌&&◌, nat_le, nat_lt, if◌then◌else◌, Bool}
use Rattle.std.specs.Prelude.{List, [], ◌∷◌, length, map, take, drop, sum_by, find, unwrap_or}
use Rattle.std.specs.List.{concat, range_with_len}
use Rattle.std.specs.Option.{option_map}
use Rattle.lr_bits.specs.declared.sizes.TheConstants.{FRAME_COUNTS, ZONE_BYTES}
use Rattle.lr_bits.specs.File.{File}
use Rattle.lr_make.specs.Frames.{frame_for_zone}
use Rattle.lr_uplink.specs.Packets.{file_packets}

-- ---- the frames of packets

-- where each of these packets starts, where they stand one after another from a place on
abbrev pub packet_starts_from : ℕ → List (List ℕ) → List ℕ
packet_starts_from place [] = []
packet_starts_from place (packet ∷ packets) = place ∷ packet_starts_from (place + length packet) packets

-- whether a place is in zone t
abbrev pub is_in_zone : ℕ → ℕ → Bool
is_in_zone t place = nat_le (ZONE_BYTES * t) place && nat_lt place (ZONE_BYTES * t + ZONE_BYTES)

-- zone t of packets
unfoldable pub sent_zone_at : List (List ℕ) → ℕ → List ℕ
sent_zone_at packets t = take ZONE_BYTES (drop (ZONE_BYTES * t) (concat packets))

-- its pointer: where in it the first packet starts that starts there, or 2047
unfoldable pub sent_pointer_at : List (List ℕ) → ℕ → ℕ
sent_pointer_at packets t =
    unwrap_or (option_map (λ start. start - ZONE_BYTES * t) (find (is_in_zone t) (packet_starts_from 0 packets))) 2047

-- frame t of packets of a channel, where the first frame has this counter; counters have 24 bits
abbrev pub sent_frame_at : ℕ → ℕ → List (List ℕ) → ℕ → List ℕ
sent_frame_at vc counter packets t =
    frame_for_zone vc ((counter + t) % FRAME_COUNTS) (sent_pointer_at packets t) (sent_zone_at packets t)

-- the frames of packets that fill their zones
unfoldable pub sent_frames_of : ℕ → ℕ → List (List ℕ) → List (List ℕ)
sent_frames_of vc counter packets =
    map (sent_frame_at vc counter packets) (range_with_len 0 (length (concat packets) / ZONE_BYTES))

-- ---- the frames of files

-- how many frames a file has, whatever the counts of its packets
abbrev pub frame_count : File → ℕ
frame_count file = length (concat (file_packets 0 file)) / ZONE_BYTES

-- how many frames these files have in a channel, and how many packets in a channel and application
unfoldable pub frames_before : ℕ → List File → ℕ
frames_before vc files = sum_by (λ file. if file.vc == vc then frame_count file else 0) files

unfoldable pub packets_before : ℕ → ℕ → List File → ℕ
packets_before vc apid files =
    sum_by (λ file. if (file.vc == vc) && (file.apid == apid) then length file.bodies else 0) files

-- the frames of a file that is sent after others: counters and counts go on
abbrev pub file_frames : List File → File → List (List ℕ)
file_frames before file =
    sent_frames_of file.vc (frames_before file.vc before)
    (file_packets (packets_before file.vc file.apid before) file)

-- the frames of files that are sent after others
abbrev pub sent_after : List File → List File → List (List ℕ)
sent_after before [] = []
sent_after before (file ∷ files) = file_frames before file ++ sent_after (before ++ file ∷ []) files

-- the frames of files
unfoldable pub sent : List File → List (List ℕ)
sent files = sent_after [] files
