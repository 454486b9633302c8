-- A file that stands for another one has an image, if that one has.
use Rattle.std.proofs.Common.{◌≡◌, ℕ, ◌+◌, ◌*◌, ◌≤◌, List, [], ◌∷◌, ◌++◌, length, drop, refl, sym, ap, ◌∙◌}
use Rattle.std.proofs.Common.{subst, arith, length-append, length-drop, inl, inr, Option, Some, None, Ok}
use Rattle.std.specs.List.{concat, flat_map}
use Rattle.std.proofs.lemmas.List.{drop-append-le}
use Rattle.lr_bits.specs.Bits.{number_bits}
use Rattle.lr_bits.specs.File.{File, bytes_of, proper_of}
use Rattle.lr_bits.proofs.BitsLemmas.{length-bits_of}
use Rattle.lr_headers.specs.Headers.{header_of}
use Rattle.lr_headers.specs.Tiling.{Header, IsHeaderOf}
use Rattle.lr_headers.specs.declared.fields.Structure.{Structure}
use Rattle.lr_headers.specs.declared.fields.Lossless.{Lossless}
use Rattle.lr_headers.proofs.Readings.{headers_are_read}
use Rattle.lr_headers.proofs.Tilings.{headers_are_one}
use Rattle.lr_image.specs.Images.{HasPixels, IsImageOf, data_field, data_pieces, line_form}
use Rattle.lr_image.specs.Picture.{Picture}
use Rattle.lr_image.specs.Pieces.{GiveLines, pieces_after}
use Rattle.lr_image.specs.Shapes.{shape_of}
use Rattle.lr_image.specs.declared.shape.Shape.{Shape}
use Rattle.lr_image.proofs.PlainLemmas.{length-written}
use Rattle.lr_mend.specs.Openings.{units_of_image}
use Rattle.lr_laws.specs.SentImages.{HasImageLike, StandFor, StandingFilesAreRead}
use Rattle.lr_laws.proofs.CodedPieces.{HaveLines, after_first, enough, given, gives, some_of, standing_are_many}
use Rattle.lr_laws.proofs.CodedPieces.{standing_have}
use Rattle.lr_laws.proofs.LongerHeaders.{header_inside, is_long}
use Rattle.lr_laws.proofs.LongerHeaders.{header_longer}
use Rattle.lr_laws.proofs.MarkedHeaders.{of_header}
use Rattle.lr_laws.proofs.OnlyImages.{Read, opened_read}
use Rattle.lr_laws.proofs.WholeImages.{has_image}

-- there is an image
abbrev pub HasImage : File → Type 0
HasImage file = (picture : Picture) × IsImageOf file picture

-- what the first body says of the header
abbrev pub FirstRead : List ℕ → Type 0
FirstRead first = Read (drop 10 first) (header_of (drop 10 first))

-- how many bytes stand before the data field
abbrev pub before_data : (first : List ℕ) → FirstRead first → ℕ
before_data first read = 10 + length read.header.bytes

-- the bodies of the data field
abbrev pub data_of : (first : List ℕ) → FirstRead first → List (List ℕ) → List (List ℕ)
data_of first read others = drop (before_data first read) first ∷ others

-- ---- a file with this first body

module _ (file : File) (first : List ℕ) (others : List (List ℕ)) (split : file.bodies ≡ first ∷ others)
    (read : FirstRead first) where
  first_has : IsHeaderOf (drop 10 first) read.header
  first_has = of_header (drop 10 first) read.header (header_of (drop 10 first)) read.is
      (headers_are_read (drop 10 first))

  pub inside : before_data first read ≤ length first
  inside =
      let long = is_long (drop 10 first) read.header first_has in
      let less = header_inside (drop 10 first) read.header first_has in
      omega (arith, long, less, length-drop 10 first)

  file_has : IsHeaderOf (proper_of file) read.header
  file_has =
      let proper_is : drop 10 first ++ concat others ≡ proper_of file =
      sym (drop-append-le 10 first (concat others) (omega (arith, inside)))
      ∙ ap (λ (bodies : List (List ℕ)). drop 10 (concat bodies)) (sym split) in
      subst (λ (proper : List ℕ). IsHeaderOf proper read.header) proper_is
      (header_longer (drop 10 first) read.header first_has (concat others))

  pieces_are : data_pieces file (length read.header.bytes) ≡ some_of (data_of first read others)
  pieces_are =
      ap (λ (bodies : List (List ℕ)). pieces_after (before_data first read) bodies) split
      ∙ after_first (before_data first read) first others inside

  length-field : length (data_field file (length read.header.bytes)) + before_data first read ≡ length (bytes_of file)
  length-field =
      let all : length (bytes_of file) ≡ length first + length (concat others) =
      ap (λ (bodies : List (List ℕ)). length (concat bodies)) split ∙ length-append first (concat others) in
      omega (
        arith,
        inside,
        all,
        length-drop (length read.header.bytes) (proper_of file),
        length-drop 10 (bytes_of file),
      )

  -- where lines are coded it has an image, if its pieces have all lines
  pub coded_image : (l : Lossless) → read.shape.lossless ≡ Some l →
      HaveLines (line_form read.shape.structure l) l.lines read.shape.structure.lines
      (some_of (data_of first read others)) →
      read.shape.structure.lines ≤ length (some_of (data_of first read others)) * l.lines → HasImage file
  coded_image l coded have all =
      let s = read.shape.structure in
      let it = gives (line_form s l) l.lines s.lines (some_of (data_of first read others)) have all in
      let has : HasPixels file (length read.header.bytes) s (Some l) it.0 =
      subst (λ (pieces : List (List ℕ)). GiveLines (line_form s l) l.lines s.lines pieces it.0)
      (sym pieces_are) it.1 in (
        record { bits = s.bits; columns = s.columns; lines = s.lines; pixels = it.0 },
        record {
          layout = record { header_bytes = length read.header.bytes; shape = read.shape };
          has_layout = record { header = read.header; is_header = file_has; is_size = refl; is_shape = read.is_shape };
          bits = refl;
          columns = refl;
          lines = refl;
          pixels = subst (λ (o : Option Lossless). HasPixels file (length read.header.bytes) s o it.0) (sym coded) has;
        },
      )

  -- and where they aren't, if it has as many bytes as the image needs
  pub plain_image : read.shape.lossless ≡ None →
      before_data first read + units_of_image read.shape.structure None ≤ length (bytes_of file) → HasImage file
  plain_image plain all =
      has_image file (before_data first read + units_of_image read.shape.structure None) first others split
      (record {
        header = read.header;
        is_header = read.is;
        shape = read.shape;
        is_shape = read.is_shape;
        plain = plain;
        need_is = refl;
      })
      all

  -- what it has, if it has an image
  module _ (picture : Picture) (image : IsImageOf file picture) where
    pub same_header : image.has_layout.header ≡ read.header
    same_header = headers_are_one
        (proper_of file) image.has_layout.header read.header image.has_layout.is_header file_has

    pub same_shape : image.layout.shape ≡ read.shape
    same_shape =
        let both : Ok image.layout.shape ≡ Ok read.shape =
        sym image.has_layout.is_shape ∙ ap shape_of same_header ∙ read.is_shape in
        cc

    pub has_pixels : HasPixels file (length read.header.bytes) read.shape.structure read.shape.lossless picture.pixels
    has_pixels =
        let size = image.has_layout.is_size ∙ ap (λ (h : Header). length h.bytes) same_header in
        subst (λ (n : ℕ). HasPixels file n read.shape.structure read.shape.lossless picture.pixels) size
        (subst (λ (s : Shape). HasPixels file image.layout.header_bytes s.structure s.lossless picture.pixels)
        same_shape image.pixels)

  pub coded_has : (l : Lossless) (pixels : List ℕ) →
      HasPixels file (length read.header.bytes) read.shape.structure (Some l) pixels →
      GiveLines (line_form read.shape.structure l) l.lines read.shape.structure.lines
      (some_of (data_of first read others)) pixels
  coded_has l pixels has =
      let s = read.shape.structure in
      subst (λ (pieces : List (List ℕ)). GiveLines (line_form s l) l.lines s.lines pieces pixels) pieces_are has

  pub plain_has : (pixels : List ℕ) → HasPixels file (length read.header.bytes) read.shape.structure None pixels →
      before_data first read + units_of_image read.shape.structure None ≤ length (bytes_of file)
  plain_has pixels has =
      let s = read.shape.structure in
      let field = data_field file (length read.header.bytes) in
      let bits : 8 * length field ≡ s.bits * (s.columns * s.lines) + length has.rest =
      sym (length-bits_of field) ∙ ap length has.written
      ∙ length-append (flat_map (number_bits s.bits) pixels) has.rest
      ∙ ap (λ (n : ℕ). n + length has.rest) (length-written s.bits pixels ∙ ap (λ (n : ℕ). s.bits * n) has.count) in
      omega (arith, bits, length-field)

-- an image of a file with the same first body is like that of the other one
module _ (sent mended : File) (first : List ℕ) (bodies others : List (List ℕ)) (split : sent.bodies ≡ first ∷ bodies)
    (splits : mended.bodies ≡ first ∷ others) (read : FirstRead first) (picture : Picture)
    (image : IsImageOf sent picture) where
  pub like : HasImage mended → HasImageLike picture mended
  like has =
      let same : has.1.layout.shape ≡ image.layout.shape =
      same_shape mended first others splits read has.0 has.1
      ∙ sym (same_shape sent first bodies split read picture image) in
      record {
        other = has.0;
        is = has.1;
        bits = has.1.bits ∙ ap (λ (s : Shape). s.structure.bits) same ∙ sym image.bits;
        columns = has.1.columns ∙ ap (λ (s : Shape). s.structure.columns) same ∙ sym image.columns;
        lines = has.1.lines ∙ ap (λ (s : Shape). s.structure.lines) same ∙ sym image.lines;
      }

-- ---- a file that stands for another one

same_size : (s : Structure) (bodies others : List (List ℕ)) → StandFor s None bodies others →
    length (concat others) ≡ length (concat bodies)
same_size s [] [] stand = refl
same_size s (body ∷ bodies) [] stand = absurd stand
same_size s [] (other ∷ others) stand = absurd stand
same_size s (body ∷ bodies) (other ∷ others) stand =
    let here : length other ≡ length body =
    elim stand.0 as (λ _. length other ≡ length body) [ inl same ↦ ap length same | inr can ↦ can ] in
    omega (
      arith,
      here,
      same_size s bodies others stand.1,
      length-append other (concat others),
      length-append body (concat bodies),
    )

module _ (sent mended : File) (first : List ℕ) (bodies others : List (List ℕ)) (split : sent.bodies ≡ first ∷ bodies)
    (splits : mended.bodies ≡ first ∷ others) (read : FirstRead first) (pixels : List ℕ) where
  by_lossless : (lossless : Option Lossless) → read.shape.lossless ≡ lossless →
      HasPixels sent (length read.header.bytes) read.shape.structure lossless pixels →
      StandFor read.shape.structure lossless bodies others → HasImage mended
  by_lossless None plain has stand =
      let need = plain_has sent first bodies split read pixels has in
      let size = same_size read.shape.structure bodies others stand in
      let old : length (bytes_of sent) ≡ length first + length (concat bodies) =
      ap (λ (l : List (List ℕ)). length (concat l)) split ∙ length-append first (concat bodies) in
      let new : length (bytes_of mended) ≡ length first + length (concat others) =
      ap (λ (l : List (List ℕ)). length (concat l)) splits ∙ length-append first (concat others) in
      plain_image mended first others splits read plain (omega (arith, need, size, old, new))
  by_lossless (Some l) coded has stand =
      let s = read.shape.structure in
      let give = coded_has sent first bodies split read l pixels has in
      let all : StandFor s (Some l) (data_of first read bodies) (data_of first read others) = (inl refl, stand) in
      let have = given (line_form s l) l.lines s.lines (some_of (data_of first read bodies)) pixels give in
      let many = enough (line_form s l) l.lines s.lines (some_of (data_of first read bodies)) pixels give in
      let more = standing_are_many s l (data_of first read bodies) (data_of first read others) all in
      let product = Rattle.std.proofs.Math.Nat.mul-le-mul_right l.lines more in
      coded_image mended first others splits read l coded
      (standing_have s l (data_of first read bodies) (data_of first read others) all s.lines s.lines (omega arith) have)
      (omega (arith, many, product))

pub standing_files : StandingFilesAreRead
standing_files sent mended picture image opening first bodies others split splits opens stand =
    let read = opened_read first opening opens in
    let same = same_shape sent first bodies split read picture image in
    like sent mended first bodies others split splits read picture image
    (by_lossless sent mended first bodies others split splits read picture.pixels read.shape.lossless refl
    (has_pixels sent first bodies split read picture image)
    (subst (λ (s : Shape). StandFor s.structure s.lossless bodies others) same stand))
