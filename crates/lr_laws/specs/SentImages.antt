-- Images of which a part of the packets came: what was sent, what came of it, and which of the mended files have an
-- image.
use Rattle.std.specs.Prelude.{◌≡◌, ◌<◌, ◌⊎◌, true, ℕ, Option, Some, None, List, [], ◌∷◌, ◌++◌, length, fold}
use Rattle.std.specs.Prelude.{if◌then◌else◌, option_to_list, All}
use Rattle.lr_bits.specs.Bits.{bits_of}
use Rattle.lr_bits.specs.File.{File}
use Rattle.lr_bits.specs.declared.sizes.TheConstants.{SEQUENCE_COUNTS}
use Rattle.lr_file.specs.Files.{bodies_of, file_from, is_file, packets_of_key}
use Rattle.lr_headers.specs.declared.fields.Structure.{Structure}
use Rattle.lr_headers.specs.declared.fields.Lossless.{Lossless}
use Rattle.lr_image.specs.Images.{IsImageOf, line_form}
use Rattle.lr_image.specs.Picture.{Picture}
use Rattle.lr_mend.specs.MendedFiles.{file_of_packet}
use Rattle.lr_mend.specs.Mending.{begins_file}
use Rattle.lr_mend.specs.Openings.{Opening, opening_of}
use Rattle.lr_mend.specs.declared.marks.MarkedFile.{MarkedFile}
use Rattle.lr_packet.specs.Verdict.{Good}
use Rattle.lr_rice.specs.CodedLines.{BeginsWithLines, Form}

-- ---- a file that stands for another one

-- the bytes begin with this many coded lines
abbrev pub HasLines : Form → ℕ → List ℕ → Type 0
HasLines form lines bytes = (samples : List ℕ) × BeginsWithLines form lines samples (bits_of bytes)

-- A filler can stand for a body: where lines aren't coded it has as many bytes, and where they are it has bytes, which
-- begin with as many lines as the record says that a packet has.
abbrev pub CanStandFor : Structure → Option Lossless → List ℕ → List ℕ → Type 0
CanStandFor s None body filler = length filler ≡ length body
CanStandFor s (Some l) body filler = (0 < length filler) × HasLines (line_form s l) l.lines filler

-- each body is the one in its place, or a filler that can stand for it
abbrev pub StandFor : Structure → Option Lossless → List (List ℕ) → List (List ℕ) → Type 0
StandFor s lossless [] [] = Unit {0}
StandFor s lossless (body ∷ bodies) (other ∷ others) =
    ((other ≡ body) ⊎ CanStandFor s lossless body other) × StandFor s lossless bodies others
StandFor s lossless bodies others = ⊥

-- there is an image, of as many columns and lines as this one, and of pixels of as many bits
pub record HasImageLike (picture : Picture) (file : File) : Type 0 where
  pub other : Picture
  pub is : IsImageOf file other
  pub bits : other.bits ≡ picture.bits
  pub columns : other.columns ≡ picture.columns
  pub lines : other.lines ≡ picture.lines

-- A file has an image, and its first body has the whole header. Another file with that body has an image like it, if
-- each of its other bodies is the one in its place, or a filler that can stand for it.
abbrev pub StandingFilesAreRead : Type 0
StandingFilesAreRead = (sent mended : File) (picture : Picture) (image : IsImageOf sent picture) (opening : Opening)
    (first : List ℕ) (bodies others : List (List ℕ)) →
    sent.bodies ≡ first ∷ bodies → mended.bodies ≡ first ∷ others → opening_of first ≡ Some opening →
    StandFor image.layout.shape.structure image.layout.shape.lossless bodies others → HasImageLike picture mended

-- ---- packets that were sent, and those of them that came

-- the packets of a channel and application, from the latest one on that begins a file
abbrev pub since_and : List Good → Good → List Good
since_and packets packet = if begins_file packet then packet ∷ [] else packets ++ packet ∷ []

abbrev pub since_beginning : ℕ → ℕ → List Good → List Good
since_beginning vc apid packets = fold since_and [] (packets_of_key vc apid packets)

-- Of packets that were sent in a row these came: the first one, the last one, and any of those between. Fewer than
-- 16,384 in a row are missing, so that their counts tell how many.
pub data Came : List Good → List Good → Type 0 where
  first_came : (packet : Good) → Came (packet ∷ []) (packet ∷ [])
  then_came : (sent came missing : List Good) (packet : Good) → Came sent came → length missing < SEQUENCE_COUNTS →
      Came (sent ++ (missing ++ packet ∷ [])) (came ++ packet ∷ [])

-- of the packets of a file those between the first and the last one have bodies of which this holds
abbrev pub BodiesBetween : (List ℕ → Type 0) → List Good → Type 0
BodiesBetween Holds packets = All (λ packet. packet.flags ≡ 0 → Holds packet.body) packets

-- The bodies between have one length where lines aren't coded, and where they are, as many lines as the record says
-- that a packet has.
abbrev pub AreAlike : Structure → Option Lossless → List Good → Type 0
AreAlike s None packets = (size : ℕ) × BodiesBetween (λ body. length body ≡ size) packets
AreAlike s (Some l) packets = BodiesBetween (HasLines (line_form s l) l.lines) packets

-- These packets are a file that has an image. The first one has the whole header, and the bodies between the first and
-- the last one are alike.
pub record SentImage (vc apid : ℕ) (sent : List Good) : Type 0 where
  pub is_one : is_file sent ≡ true
  pub picture : Picture
  pub image : IsImageOf (file_from vc apid sent) picture
  pub first : Good
  pub others : List Good
  pub begins : sent ≡ first ∷ others
  pub opening : Opening
  pub opens : opening_of first.body ≡ Some opening
  pub alike : AreAlike image.layout.shape.structure image.layout.shape.lossless sent

-- The file stands for an image that was sent: its first body is that of the image, and each other one the body in its
-- place, or a filler that can stand for it.
pub record StandsForImage {vc apid : ℕ} {sent : List Good} (image : SentImage vc apid sent) (file : File) : Type 0 where
  pub others : List (List ℕ)
  pub bodies : file.bodies ≡ image.first.body ∷ others
  pub stand : StandFor image.image.layout.shape.structure image.image.layout.shape.lossless
      (bodies_of image.others) others

-- An image was sent, and its first packet, its last one and some between came. The mended file that ends with the last
-- one, if one does, has an image like it.
abbrev pub SentImagesAreRead : Type 0
SentImagesAreRead = (most : ℕ) (packets : List Good) (packet : Good) (sent : List Good) →
    (image : SentImage packet.vc packet.apid sent) →
    Came sent (since_beginning packet.vc packet.apid (packets ++ packet ∷ [])) →
    All (λ (m : MarkedFile). HasImageLike image.picture m.file) (option_to_list (file_of_packet most packets packet))
