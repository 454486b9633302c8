-- When a mended file comes of an image that was sent, and that it has an image.
use Rattle.std.specs.Prelude.{true, false, ◌≡◌, ◌<◌, ◌≤◌, ◌+◌, ◌*◌, ℕ, Some, List, [], ◌∷◌, ◌++◌, length, map}
use Rattle.std.specs.List.{sum_by}
use Rattle.lr_bits.specs.File.{File}
use Rattle.lr_bits.specs.Sizes.{most_file_bytes}
use Rattle.lr_bits.specs.declared.sizes.TheConstants.{SEQUENCE_COUNTS}
use Rattle.lr_bits.specs.Sizes.{most_file_bodies}
use Rattle.lr_file.specs.Files.{file_at, size_of}
use Rattle.lr_mend.specs.Laws.{packet_mended}
use Rattle.lr_mend.specs.Mending.{Image, gap_before, goes_back, is_over, mended_packets, needed_before, open_image}
use Rattle.lr_mend.specs.Openings.{units_in}
use Rattle.lr_laws.specs.SentImages.{BodiesBetween, Came, HasImageLike, SentImage, StandsForImage, since_beginning}
use Rattle.lr_packet.specs.Verdict.{Good}

-- Of an image that was sent: something of it is still wanted before its last packet, so no fillers end it before. The
-- bodies between the first and the last one have bytes, and if all were as long as the longest of them the file would
-- pass no limit. The counts have 14 bits.
pub record IsMendable (vc apid : ℕ) (sent : List Good) (image : SentImage vc apid sent) : Type 0 where
  pub between : List Good
  pub last : Good
  pub split : image.others ≡ between ++ last ∷ []
  pub wanted : sum_by (λ packet. units_in image.opening.coded packet.body) between < image.opening.wanted
  pub some : BodiesBetween (λ body. 0 < length body) sent
  pub longest : ℕ
  pub short : BodiesBetween (λ body. length body ≤ longest) sent
  pub fits : length image.first.body + length between * longest + length last.body ≤ most_file_bytes
  pub counted : image.first.count < SEQUENCE_COUNTS

-- The first packet of such an image came, its last one and one between at least, and no more are missing than an image
-- may have fillers. Then a file ends with the last one among the mended packets. It stands for the image that was sent,
-- and has one like it.
abbrev pub MendedImagesCome : Type 0
MendedImagesCome = (most : ℕ) (packets : List Good) (packet : Good) (sent came : List Good) →
    (image : SentImage packet.vc packet.apid sent) → IsMendable packet.vc packet.apid sent image → 0 < most →
    since_beginning packet.vc packet.apid (packets ++ packet ∷ []) ≡ came → Came sent came →
    2 < length came → length sent ≤ length came + most →
    (file : File)
    × ((file_at (map packet_mended (mended_packets most packets) ++ gap_before most packets packet) packet ≡ Some file)
    × (StandsForImage image file × HasImageLike image.picture file))

-- An open image may be ended by fillers before a packet: it is whole with the packets that are missing, the count
-- doesn't go back, and it may have as many fillers as it needs.
pub record MayEnd (most : ℕ) (begun : Image) (packet : Good) : Type 0 where
  pub over : is_over begun packet ≡ true
  pub forward : goes_back begun packet ≡ false
  pub allowed : begun.fillers + needed_before begun packet ≤ most

-- these packets pass no limit of a file
abbrev pub AreWithinLimits : List Good → Type 0
AreWithinLimits packets = (length packets ≤ most_file_bodies) × (size_of packets ≤ most_file_bytes)

-- a file ends with the last filler before a packet
pub record EndsWithFillers (most : ℕ) (packets : List Good) (packet : Good) : Type 0 where
  pub front : List Good
  pub last : Good
  pub split : gap_before most packets packet ≡ front ++ last ∷ []
  pub file : File
  pub is : file_at (map packet_mended (mended_packets most packets) ++ front) last ≡ Some file

-- The first packet of such an image came and one between at least, no more are missing among those so far than an image
-- may have fillers, and its last packets are missing. It is open then. Where it may be ended before a later packet, and
-- its mended packets with the fillers pass no limit, a file ends with the last of them.
abbrev pub MadeEndsCome : Type 0
MadeEndsCome = (most : ℕ) (packets : List Good) (packet : Good) (whole sent came lost : List Good) →
    (image : SentImage packet.vc packet.apid whole) → IsMendable packet.vc packet.apid whole image → 0 < most →
    whole ≡ sent ++ lost → 0 < length lost →
    since_beginning packet.vc packet.apid packets ≡ came → Came sent came →
    1 < length came → length sent ≤ length came + most →
    (begun : Image) × ((open_image most packet.vc packet.apid packets ≡ Some begun)
    × (MayEnd most begun packet →
    AreWithinLimits (since_beginning packet.vc packet.apid (map packet_mended (mended_packets most packets))
    ++ gap_before most packets packet) →
    EndsWithFillers most packets packet))
