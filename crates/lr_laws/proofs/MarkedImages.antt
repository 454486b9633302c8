-- A marked file has the image that the file has.
use Rattle.std.proofs.Common.{◌≡◌, ℕ, ◌+◌, ◌-◌, ◌*◌, ◌≤◌, Option, Some, None, List, [], ◌∷◌, ◌++◌, length, map, take}
use Rattle.std.proofs.Common.{drop, refl, sym, ap, ◌∙◌, subst, arith, length-append, length-drop, append_assoc}
use Rattle.std.specs.List.{concat}
use Rattle.std.specs.Int.{to_be_bytes, w32}
use Rattle.std.proofs.lemmas.List.{drop-append-le, drop_at, length-take-le, take-append-le, take_at}
use Rattle.byteorder.specs.Endian.{big_number}
use Rattle.lr_bits.specs.Bits.{bits_of}
use Rattle.lr_bits.specs.File.{File, bytes_of, pieces_of, proper_of}
use Rattle.lr_bits.proofs.FileLemmas.{pieces_of-concat}
use Rattle.lr_headers.specs.Tiling.{Header, IsHeaderOf, number_at}
use Rattle.lr_headers.specs.declared.fields.Structure.{Structure}
use Rattle.lr_headers.specs.declared.fields.Lossless.{Lossless}
use Rattle.lr_image.specs.Images.{HasPixels, data_field, data_pieces, line_form}
use Rattle.lr_image.specs.Pieces.{GiveLines, piece_with, pieces_after}
use Rattle.lr_image.specs.Plain.{BeginsWithPixels}
use Rattle.lr_mend.specs.Marks.{first_of, header_bytes_in, longer_first, mark_record, mark_text, marked_bytes}
use Rattle.lr_mend.specs.declared.marks.MarkedFile.{MarkedFile}
use Rattle.lr_mend.proofs.Marking.{first_le, length-marked}
use Rattle.lr_laws.specs.MarkedImages.{MarkedImages}
use Rattle.lr_laws.proofs.LongerHeaders.{after, length-longer, longer}
use Rattle.lr_laws.proofs.MarkedHeaders.{IsMarked, header_size, is_marked}
use Rattle.lr_laws.proofs.LongerHeaders.{number-front}
use Rattle.lr_laws.proofs.MarkedHeaders.{marked_header_is}
use Rattle.lr_laws.proofs.MarkedShapes.{same_shape}

-- ---- the pieces of the data field

-- the first body is longer by what was put in before its data, and the others are as they were
same_pieces : (skipped more : ℕ) (first first' : List ℕ) (bodies : List (List ℕ)) → skipped ≤ length first →
    length first' ≡ length first + more → drop (skipped + more) first' ≡ drop skipped first →
    pieces_after (skipped + more) (first' ∷ bodies) ≡ pieces_after skipped (first ∷ bodies)
same_pieces skipped more first first' bodies inside longer same =
    let a : skipped + more - length first' ≡ 0 = omega (arith, inside, longer) in
    let b : skipped - length first ≡ 0 = omega (arith, inside) in
    (λ i. piece_with (same i) (pieces_after (a i) bodies))
    ∙ ap (λ (n : ℕ). piece_with (drop skipped first) (pieces_after n bodies)) (sym b)

-- the header stands in the first body, so the record is put into that one
module _ (mark first rest : List ℕ) (least : 8 ≤ header_bytes_in first)
    (inside : header_bytes_in first + 10 ≤ length first) where
  abbrev size : ℕ
  size = header_bytes_in first

  size_same : header_bytes_in (first ++ rest) ≡ size
  unfolding number_at
  size_same =
      let there : 4 ≤ length (drop 14 first) = omega (arith, length-drop 14 first, least, inside) in
      ap (big_number 4) (drop-append-le 14 first rest (omega (arith, least, inside)))
      ∙ number-front 4 (drop 14 first) rest there

  abbrev until : ℕ → List ℕ → List ℕ
  until n xs = ((take 14 xs ++ to_be_bytes w32 (n + length mark)) ++ take (n - 8) (drop 18 xs)) ++ mark

  until_same : until size (first ++ rest) ≡ until size first
  until_same =
      let there : size - 8 ≤ length (drop 18 first) = omega (arith, length-drop 18 first, least, inside) in
      (λ i. ((take-append-le 14 first rest (omega (arith, least, inside)) i ++ to_be_bytes w32 (size + length mark))
      ++ take (size - 8) (drop-append-le 18 first rest (omega (arith, least, inside)) i)) ++ mark)
      ∙ ap (λ l. ((take 14 first ++ to_be_bytes w32 (size + length mark)) ++ l) ++ mark)
      (take-append-le (size - 8) (drop 18 first) rest there)

  pub marked_first : marked_bytes mark (first ++ rest) ≡ marked_bytes mark first ++ rest
  unfolding marked_bytes
  marked_first =
      (λ i. until (size_same i) (first ++ rest) ++ drop (size_same i + 10) (first ++ rest))
      ∙ (λ i. until_same i ++ drop-append-le (size + 10) first rest inside i)
      ∙ sym (append_assoc (until size first) (drop (size + 10) first) rest)

  length-until : length (until size first) ≡ 10 + size + length mark
  length-until =
      let four : length (to_be_bytes w32 (size + length mark)) ≡ 4 = refl in
      omega (
        arith,
        four,
        least,
        length-append ((take 14 first ++ to_be_bytes w32 (size + length mark)) ++ take (size - 8) (drop 18 first)) mark,
        length-append (take 14 first ++ to_be_bytes w32 (size + length mark)) (take (size - 8) (drop 18 first)),
        length-append (take 14 first) (to_be_bytes w32 (size + length mark)),
        length-take-le 14 first (omega (arith, least, inside)),
        length-take-le (size - 8) (drop 18 first) (omega (arith, length-drop 18 first, least, inside)),
      )

  pub data_same : drop (10 + size + length mark) (marked_bytes mark first) ≡ drop (10 + size) first
  unfolding marked_bytes
  data_same =
      let place : size + 10 ≡ 10 + size = omega arith in
      drop_at (until size first) (drop (size + 10) first) (10 + size + length mark) length-until
      ∙ ap (λ (n : ℕ). drop n first) place

-- so the bodies are the longer first one, and the others
bodies_marked : (mark first : List ℕ) (bodies : List (List ℕ)) → 8 ≤ header_bytes_in first →
    header_bytes_in first + 10 ≤ length first →
    pieces_of (longer_first (length mark) (map length (first ∷ bodies))) (marked_bytes mark (concat (first ∷ bodies)))
    ≡ marked_bytes mark first ∷ bodies
bodies_marked mark first bodies least inside =
    let whole = marked_first mark first (concat bodies) least inside in
    let size : length (marked_bytes mark first) ≡ length first + length mark = length-marked mark first least inside in
    let n = length first + length mark in
    ap (pieces_of (longer_first (length mark) (map length (first ∷ bodies)))) whole
    ∙ (λ i. take_at (marked_bytes mark first) (concat bodies) n size i
    ∷ pieces_of (map length bodies) (drop_at (marked_bytes mark first) (concat bodies) n size i))
    ∙ ap (λ l. marked_bytes mark first ∷ l) (pieces_of-concat bodies)

size_in_first : (first rest : List ℕ) → 18 ≤ length first → header_bytes_in (first ++ rest) ≡ header_bytes_in first
unfolding number_at
size_in_first first rest long =
    let there : 4 ≤ length (drop 14 first) = omega (arith, length-drop 14 first, long) in
    ap (big_number 4) (drop-append-le 14 first rest (omega (arith, long))) ∙ number-front 4 (drop 14 first) rest there

-- and the pieces after the header are the same
pieces_same : (mark : List ℕ) (bodies : List (List ℕ)) (size : ℕ) → size ≡ header_bytes_in (concat bodies) → 8 ≤ size →
    size + 10 ≤ first_of (map length bodies) →
    pieces_after (10 + (size + length mark)) (pieces_of (longer_first (length mark) (map length bodies))
    (marked_bytes mark (concat bodies))) ≡ pieces_after (10 + size) bodies
pieces_same mark [] size is least inside = absurd (omega (arith, inside))
pieces_same mark (first ∷ bodies) size is least inside =
    let same : size ≡ header_bytes_in first =
    is ∙ size_in_first first (concat bodies) (omega (arith, least, inside)) in
    let a : 8 ≤ header_bytes_in first = omega (arith, same, least) in
    let b : header_bytes_in first + 10 ≤ length first = omega (arith, same, inside) in
    let place : 10 + (size + length mark) ≡ 10 + header_bytes_in first + length mark = omega (arith, same) in
    let back : 10 + header_bytes_in first ≡ 10 + size = omega (arith, same) in
    (λ i. pieces_after (place i) (bodies_marked mark first bodies a b i))
    ∙ same_pieces (10 + header_bytes_in first) (length mark) first (marked_bytes mark first) bodies
    (omega (arith, b)) (length-marked mark first a b) (data_same mark first (concat bodies) a b)
    ∙ ap (λ (n : ℕ). pieces_after n (first ∷ bodies)) back

-- ---- the image

module _ (file : File) (places : List ℕ) (m : MarkedFile) (header : Header)
    (is : IsHeaderOf (proper_of file) header) (it : IsMarked file places m header is) where
  abbrev text : List ℕ
  text = mark_text places (length file.bodies)

  abbrev more : ℕ
  more = length (mark_record text)

  abbrev header' : Header
  header' = after text header.bytes is.tiled.least it.few it.fits header

  size' : length header'.bytes ≡ length header.bytes + more
  size' = length-longer text header.bytes is.tiled.least it.few it.fits

  same_field : data_field m.file (length header.bytes + more) ≡ data_field file (length header.bytes)
  same_field =
      ap (drop (length header.bytes + more)) it.proper
      ∙ drop_at (longer text header.bytes is.tiled.least it.few it.fits) (drop (length header.bytes) (proper_of file))
      (length header.bytes + more) size'

  same_data : data_pieces m.file (length header.bytes + more) ≡ data_pieces file (length header.bytes)
  same_data =
      let long = it.marks.can.inside in
      let size : length header.bytes ≡ header_bytes_in (bytes_of file) =
      sym (header_size (mark_record text) file header is
      (omega (arith, long, it.marks.can.least, first_le file.bodies))) in
      ap (λ (f : File). pieces_after (10 + (length header.bytes + more)) f.bodies) it.marks.file_is
      ∙ pieces_same (mark_record text) file.bodies (length header.bytes) size
      (omega (arith, size, it.marks.can.least)) (omega (arith, size, long))

  same_pixels : (s : Structure) (lossless : Option Lossless) (pixels : List ℕ) →
      HasPixels file (length header.bytes) s lossless pixels →
      HasPixels m.file (length header.bytes + more) s lossless pixels
  same_pixels s None pixels has =
      subst (λ (field : List ℕ). BeginsWithPixels s.bits (s.columns * s.lines) (bits_of field) pixels)
      (sym same_field) has
  same_pixels s (Some l) pixels has =
      subst (λ (pieces : List (List ℕ)). GiveLines (line_form s l) l.lines s.lines pieces pixels) (sym same_data) has

pub marked_images : MarkedImages
marked_images file place places m picture marks image =
    let layout = image.has_layout in
    let header = layout.header in
    let it = is_marked file place places m header layout.is_header marks in
    let text = mark_text (place ∷ places) (length file.bodies) in
    let more = length (mark_record text) in
    record {
      layout = record { header_bytes = length header.bytes + more; shape = image.layout.shape };
      has_layout = record {
        header = after text header.bytes layout.is_header.tiled.least it.few it.fits header;
        is_header = marked_header_is file (place ∷ places) m header layout.is_header it;
        is_size = sym (size' file (place ∷ places) m header layout.is_header it);
        is_shape = same_shape text header layout.is_header.tiled it.few it.fits ∙ layout.is_shape;
      };
      bits = image.bits;
      columns = image.columns;
      lines = image.lines;
      pixels = same_pixels file (place ∷ places) m header layout.is_header it image.layout.shape.structure
          image.layout.shape.lossless picture.pixels
          (subst (λ (n : ℕ). HasPixels file n image.layout.shape.structure image.layout.shape.lossless picture.pixels)
          layout.is_size image.pixels);
    }
