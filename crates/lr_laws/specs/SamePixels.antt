-- Which pixels of two images are the same.
use Rattle.std.specs.Prelude.{◌≡◌, ◌<◌, ◌≤◌, ◌+◌, ◌*◌, false, ℕ, Some, List, ◌∷◌, ◌++◌, length, get_or}
use Rattle.lr_bits.specs.File.{File, bytes_of}
use Rattle.lr_bits.specs.declared.sizes.TheConstants.{TRANSPORT_HEADER_BYTES}
use Rattle.lr_headers.specs.declared.fields.Lossless.{Lossless}
use Rattle.lr_image.specs.Images.{IsImageOf, data_pieces}
use Rattle.lr_image.specs.Picture.{Picture}
use Rattle.lr_mend.specs.Openings.{Opening, opening_of}

-- ---- lines that aren't coded

-- where the bits of a pixel begin among those of the file: after the transport header, the header and earlier pixels
abbrev pub pixel_place : {file : File} → (picture : Picture) → IsImageOf file picture → ℕ → ℕ
pixel_place picture image pixel =
    8 * (TRANSPORT_HEADER_BYTES + image.layout.header_bytes) + picture.bits * pixel

-- Two files have an image, and the same first body, which has the whole header; lines aren't coded. After as many other
-- bytes these bytes stand in both. Then each pixel is the same whose bits are among those of these bytes.
abbrev pub KeptPixelsAreSame : Type 0
KeptPixelsAreSame = (sent mended : File) (picture other : Picture) (image : IsImageOf sent picture) →
    IsImageOf mended other → (opening : Opening) (first : List ℕ) (bodies others : List (List ℕ)) →
    sent.bodies ≡ first ∷ bodies → mended.bodies ≡ first ∷ others →
    opening_of first ≡ Some opening → opening.coded ≡ false →
    (kept before after front back : List ℕ) →
    bytes_of sent ≡ before ++ (kept ++ after) → bytes_of mended ≡ front ++ (kept ++ back) →
    length front ≡ length before → (pixel default : ℕ) → pixel < picture.columns * picture.lines →
    8 * length before ≤ pixel_place picture image pixel →
    pixel_place picture image (pixel + 1) ≤ 8 * (length before + length kept) →
    get_or other.pixels pixel default ≡ get_or picture.pixels pixel default

-- ---- coded lines

-- Two files have an image, and the same first body, which has the whole header; lines are coded. After as many other
-- pieces this piece stands in both. Then the pixels of its lines are the same.
abbrev pub KeptLinesAreSame : Type 0
KeptLinesAreSame = (sent mended : File) (picture other : Picture) (image : IsImageOf sent picture) →
    IsImageOf mended other → (opening : Opening) (first : List ℕ) (bodies others : List (List ℕ)) →
    sent.bodies ≡ first ∷ bodies → mended.bodies ≡ first ∷ others →
    opening_of first ≡ Some opening → (l : Lossless) → image.layout.shape.lossless ≡ Some l →
    (kept : List ℕ) (before after front back : List (List ℕ)) →
    data_pieces sent image.layout.header_bytes ≡ before ++ (kept ∷ after) →
    data_pieces mended image.layout.header_bytes ≡ front ++ (kept ∷ back) →
    length front ≡ length before → (pixel default : ℕ) → pixel < picture.columns * picture.lines →
    length before * (l.lines * picture.columns) ≤ pixel →
    pixel < (length before + 1) * (l.lines * picture.columns) →
    get_or other.pixels pixel default ≡ get_or picture.pixels pixel default
