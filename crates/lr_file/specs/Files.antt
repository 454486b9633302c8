-- The mission files in a list of good packets (CGMS 03, the transport layer; the sequence flags and counts of CCSDS
-- 133.0-B, section 4.1.3.4).
use Rattle.std.specs.Prelude.{ℕ, ◌+◌, ◌-◌, ◌%◌, ◌==◌, ◌&&◌, nat_le, Bool, true, if◌then◌else◌, Option, List, [], ◌∷◌}
use Rattle.std.specs.Prelude.{◌++◌, length, map, filter, find, replicate, option_to_list}
use Rattle.std.specs.List.{concat}
use Rattle.std.specs.Str.{bytes_eq}
use Rattle.std.specs.Option.{option_map}
use Rattle.lr_bits.specs.File.{File}
use Rattle.lr_bits.specs.declared.sizes.TheConstants.{TRANSPORT_HEADER_BYTES, SEQUENCE_COUNTS}
use Rattle.lr_packet.specs.Verdict.{Good}
use Rattle.lr_bits.specs.Sizes.{most_file_bodies, most_file_bytes}

-- the packets of one channel and application
abbrev pub packets_of_key : ℕ → ℕ → List Good → List Good
packets_of_key vc apid packets = filter (λ p. (p.vc == vc) && (p.apid == apid)) packets

-- the stretches of a list that end with its last element, the longest first
abbrev pub last_stretches : List Good → List (List Good)
last_stretches [] = []
last_stretches (p ∷ ps) = (p ∷ ps) ∷ last_stretches ps

-- the flags of a file of n packets: 3 where it has one, else 1, then 0 for each between, then 2
abbrev pub flags_of_file : ℕ → List ℕ
flags_of_file n = if n == 1 then 3 ∷ [] else ((1 ∷ replicate (n - 2) 0) ++ (2 ∷ []))

-- each count is the one before plus 1, modulo 2^14
abbrev pub are_counted_on : List ℕ → Bool
are_counted_on [] = true
are_counted_on (count ∷ []) = true
are_counted_on (count ∷ next ∷ counts) = (next == (count + 1) % SEQUENCE_COUNTS) && are_counted_on (next ∷ counts)

-- the bodies of a stretch, and how many bytes they have together
abbrev pub bodies_of : List Good → List (List ℕ)
bodies_of stretch = map (λ p. p.body) stretch

abbrev pub size_of : List Good → ℕ
size_of stretch = length (concat (bodies_of stretch))

-- a stretch of the packets of one channel and application is a file
unfoldable pub is_file : List Good → Bool
is_file stretch =
    bytes_eq (map (λ p. p.flags) stretch) (flags_of_file (length stretch)) && are_counted_on
    (map (λ p. p.count) stretch)
    && nat_le (length stretch) most_file_bodies && nat_le TRANSPORT_HEADER_BYTES (size_of stretch) &&
    nat_le (size_of stretch) most_file_bytes

-- the file that such a stretch is
abbrev pub file_from : ℕ → ℕ → List Good → File
file_from vc apid stretch = record { vc = vc; apid = apid; bodies = bodies_of stretch }

-- the file that ends with this packet, where these came before it, if one does
unfoldable pub file_at : List Good → Good → Option File
file_at before packet =
    option_map (file_from packet.vc packet.apid) (find is_file
    (last_stretches (packets_of_key packet.vc packet.apid (before ++ packet ∷ []))))

-- for each packet in turn the file that ends with it, where n came before
abbrev pub files_after : List Good → List Good → List File
files_after before [] = []
files_after before (packet ∷ packets) =
    option_to_list (file_at before packet) ++ files_after (before ++ packet ∷ []) packets

-- all files, in the order of their last packets
unfoldable pub files_of_packets : List Good → List File
files_of_packets packets = files_after [] packets
