-- What is kept of the packets so far.
use Rattle.std.specs.Prelude.{◌≡◌, ◌≤◌, ◌<◌, ℕ, Bool, true, false, List, length}
use Rattle.lr_bits.specs.declared.sizes.TheConstants.{SEQUENCE_COUNTS}
use Rattle.lr_bits.specs.Sizes.{most_body_bytes}
use Rattle.lr_packet.specs.Verdict.{Good}
use Rattle.lr_file.specs.Standing.{AreAscending, kept_of_key}
use Rattle.lr_mend.specs.Mending.{Image, most_fillers, open_image}

-- how many fillers an image may have, the open images by their channels and applications, and whether memory was
-- wanting
pub record KeptImages : Type 0 where
  pub spent : Bool
  pub most : ℕ
  pub images : List ((ℕ × ℕ) × Image)

-- memory was wanting in an earlier call
abbrev pub IsMenderSpent : KeptImages → Type 0
IsMenderSpent kept = kept.spent ≡ true

-- no more of an image is to come than its bytes, of two for each of its pixels at most
abbrev pub most_wanted : ℕ
most_wanted = 536870912

-- an open image has the count and the body of a packet, and few fillers
pub record IsSoundImage (image : Image) : Type 0 where
  pub counted : image.count < SEQUENCE_COUNTS
  pub short : length image.body ≤ most_body_bytes
  pub few : image.fillers ≤ most_fillers
  pub bounded : image.wanted ≤ most_wanted

-- What is kept stands for these packets: memory wasn't wanting, and of each channel and application the open image is
-- kept, once, and none where there is none.
pub record MenderStandsFor (kept : KeptImages) (packets : List Good) : Type 0 where
  pub unspent : kept.spent ≡ false
  pub once : AreAscending kept.images
  pub images : (vc apid : ℕ) → kept_of_key kept.images vc apid ≡ open_image kept.most vc apid packets
