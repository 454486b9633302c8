-- What is kept of the packets so far.
use Rattle.std.specs.Prelude.{◌≡◌, ℕ, ◌-◌, ◌==◌, ◌&&◌, ◌<◌, ◌≤◌, nat_le, Bool, true, false, Option, List, [], ◌∷◌}
use Rattle.std.specs.Prelude.{length, map, find, replicate, All, ◌+◌}
use Rattle.std.specs.List.{concat}
use Rattle.std.specs.List.Sorted.{IsStrictlySortedBy}
use Rattle.std.specs.Map.{lookup, keys_of}
use Rattle.std.specs.Ordering.{nat_cmp, ordering_then}
use Rattle.std.specs.declared.cmp.Ordering.{Ordering}
use Rattle.std.specs.Str.{bytes_eq}
use Rattle.std.specs.Option.{option_map}
use Rattle.lr_packet.specs.Verdict.{Good}
use Rattle.lr_bits.specs.declared.sizes.TheConstants.{SEQUENCE_COUNTS}
use Rattle.lr_bits.specs.Sizes.{most_body_bytes, most_file_bodies, most_file_bytes}
use Rattle.lr_file.specs.Files.{packets_of_key, last_stretches, are_counted_on, bodies_of, size_of}

-- an open file: how many bytes each body has so far, the bodies joined, and the count of the last packet
pub record Open : Type 0 where
  pub lengths : List ℕ
  pub bytes : List ℕ
  pub count : ℕ

-- the open files by their channels and applications, and whether memory was wanting
pub record KeptFiles : Type 0 where
  pub spent : Bool
  pub files : List ((ℕ × ℕ) × Open)

-- memory was wanting in an earlier call
abbrev pub AreFilesSpent : KeptFiles → Type 0
AreFilesSpent kept = kept.spent ≡ true

-- the order of the channels and applications: by channels, and by applications within a channel
abbrev pub key_cmp : ℕ × ℕ → ℕ × ℕ → Ordering
key_cmp x y = ordering_then (nat_cmp x.0 y.0) (nat_cmp x.1 y.1)

-- the channels and applications ascend, so each stands there once
abbrev pub AreAscending : {V : Type 0} → List ((ℕ × ℕ) × V) → Type 0
AreAscending entries = IsStrictlySortedBy key_cmp (keys_of entries)

-- what is kept of a channel and application
unfoldable pub kept_of_key : {V : Type 0} → List ((ℕ × ℕ) × V) → ℕ → ℕ → Option V
kept_of_key entries vc apid = lookup (λ key. (vc == key.0) && (apid == key.1)) entries

-- An open file is within the limits of a file: each body has fewer than 65,535 bytes, there are at most 1,048,576 of
-- them, and they have at most 67,108,864 bytes together. Its count has 14 bits.
pub record IsWithinLimits (file : Open) : Type 0 where
  pub short : All (λ one. one ≤ most_body_bytes) file.lengths
  pub few : length file.lengths ≤ most_file_bodies
  pub most : length file.bytes ≤ most_file_bytes
  pub counted : file.count < SEQUENCE_COUNTS

-- the flags of an open file of n packets: 1, then 0 for each other
abbrev pub flags_of_open : ℕ → List ℕ
flags_of_open n = 1 ∷ replicate (n - 1) 0

-- a stretch of the packets of one channel and application is an open file: no end yet, counts that follow one another,
-- and no limit passed
unfoldable pub is_open : List Good → Bool
is_open stretch =
    bytes_eq (map (λ p. p.flags) stretch) (flags_of_open (length stretch)) && are_counted_on
    (map (λ p. p.count) stretch)
    && nat_le (length stretch) most_file_bodies && nat_le (size_of stretch) most_file_bytes

-- the count of the last of these packets
abbrev pub last_count : List Good → ℕ
last_count [] = 0
last_count (p ∷ []) = p.count
last_count (p ∷ q ∷ ps) = last_count (q ∷ ps)

-- the open file that such a stretch is
abbrev pub open_from : List Good → Open
open_from stretch =
    record { lengths = map length (bodies_of stretch); bytes = concat (bodies_of stretch); count = last_count stretch }

-- the open file of a channel and application after these packets, if there is one
unfoldable pub open_file : ℕ → ℕ → List Good → Option Open
open_file vc apid packets = option_map open_from (find is_open (last_stretches (packets_of_key vc apid packets)))

-- What is kept stands for these packets: memory wasn't wanting, and of each channel and application the open file is
-- kept, once, and none where there is none.
pub record FilesStandFor (kept : KeptFiles) (packets : List Good) : Type 0 where
  pub unspent : kept.spent ≡ false
  pub once : AreAscending kept.files
  pub files : (vc apid : ℕ) → kept_of_key kept.files vc apid ≡ open_file vc apid packets
