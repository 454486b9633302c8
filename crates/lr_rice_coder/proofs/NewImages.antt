-- A file that is coded anew has the image of the old one.
use Rattle.std.proofs.Common.{◌≡◌, ℕ, zero, suc, ◌+◌, ◌-◌, ◌*◌, ◌^◌, ◌<◌, ◌≤◌, Bool, true, false, not, ◌||◌, min}
use Rattle.std.proofs.Common.{All, eqb, cond, Option, Some, None, Result, Ok, Err, List, [], ◌∷◌, ◌++◌, length, map}
use Rattle.std.proofs.Common.{take, get_or, drop, refl, sym, ap, ◌∙◌, subst, arith, inl, inr, length-append}
use Rattle.std.specs.List.{AllZip, concat, list_any, range_with_len}
use Rattle.std.proofs.Math.Seq.{take-add}
use Rattle.std.proofs.lemmas.Bool.{cases_lt}
use Rattle.std.proofs.lemmas.List.{drop-drop, drop_all, drop_at, get_or_past, take_all}
use Rattle.std.proofs.lemmas.Nat.{pow_pos}
use Rattle.byteorder.specs.Numbers.{big_number-reads_back}
use Rattle.lr_bits.specs.Bits.{bits_of, number_bits}
use Rattle.lr_bits.specs.File.{File, IsFile, counter_of, declared_bits_of, proper_of, real_bits_of}
use Rattle.lr_bits.specs.Sizes.{most_body_bytes, most_file_bytes}
use Rattle.lr_bits.proofs.ReaderLemmas.{length-number_bits}
use Rattle.lr_bits.specs.Written.{transport_header}
use Rattle.lr_headers.specs.Fields.{file_type, is_encrypted, is_key, lossless_of, structure_of}
use Rattle.lr_headers.specs.Tiling.{Header, IsHeaderOf}
use Rattle.lr_headers.specs.declared.entry.Entry.{Entry}
use Rattle.lr_headers.specs.declared.fields.Structure.{Structure}
use Rattle.lr_headers.specs.declared.fields.Lossless.{Lossless}
use Rattle.lr_headers.proofs.Tilings.{headers_are_one}
use Rattle.lr_rice.specs.declared.choice.BlockOption.{BlockOption}
use Rattle.lr_rice.specs.declared.choice.BlockOption.TheVariants.{ZeroBlock, SecondExtension, Split, Uncoded}
use Rattle.lr_rice.specs.CodedLines.{BeginsWithLines, Form, block_count, body_string, greatest, head_string}
use Rattle.lr_rice.specs.CodedLines.{identifier, left_in_segment, option_of, part_string, short_width, span_of}
use Rattle.lr_rice.specs.CodedLines.{string_from}
use Rattle.lr_rice.proofs.LineLemmas.{block_count-pos}
use Rattle.lr_image.specs.Pgm.{line_pixels}
use Rattle.lr_image.specs.Picture.{Picture, IsPicture}
use Rattle.lr_image.specs.Pieces.{GiveLines, piece_with, pieces_after}
use Rattle.lr_image.specs.Images.{IsImageOf}
use Rattle.lr_image.specs.Shapes.{IsShape, IsSize, coded_shape, lossless_fault, lossless_shape, plain_shape, shape_of}
use Rattle.lr_image.specs.Shapes.{size_fault, structured_shape, unless}
use Rattle.lr_image.specs.declared.fault.ImageFault.{ImageFault}
use Rattle.lr_image.specs.declared.fault.ImageFault.TheVariants.{NotImage, Encrypted, Compression}
use Rattle.lr_image.specs.declared.shape.Shape.{Shape}
use Rattle.lr_image.proofs.ShapeLemmas.{shape_sound}
use Rattle.lr_image.proofs.WholePixels.{makes_picture}
use Rattle.lr_rice_coder.specs.Coded.{IsBlockSize, IsCodedLine}
use Rattle.lr_rice_coder.specs.Laws.{IsRow, RepackedKeepsImage, RepackedKeepsName, RepackedTellsLengths}
use Rattle.lr_rice_coder.specs.Repacked.{first_body, form_with, new_records, others_of, records_size, rows_of}
use Rattle.lr_rice_coder.specs.Repacked.{repacked_file}
use Rattle.lr_rice_coder.specs.Shortest.{line_places, next_part, parts_from, shortest_string}
use Rattle.lr_rice_coder.specs.Writing.{ArePlaces}
use Rattle.lr_rice_coder.proofs.CodingLemmas.{string-next}
use Rattle.lr_rice_coder.proofs.CostLemmas.{short-least}
use Rattle.lr_rice_coder.proofs.LawLemmas.{block-wide, coded_is_decoded, fillings_are_whole, row_places}
use Rattle.lr_rice_coder.proofs.MakingLemmas.{line_whole}
use Rattle.lr_rice_coder.proofs.NewFiles.{new_data_bits}
use Rattle.lr_rice_coder.proofs.NewFiles.{new_header, new_header_is, new_shape, new_size, others_stand, shape_is}
use Rattle.lr_rice_coder.proofs.NewFiles.{structure_from}
use Rattle.lr_rice_coder.proofs.NewHeaders.{no_key_kept}
use Rattle.lr_rice_coder.proofs.PartLemmas.{cut-small}

-- ---- a coded line has bytes

identifier-some : (bits : ℕ) (option : BlockOption) → 1 ≤ length (identifier bits option)
identifier-some bits ZeroBlock = omega (arith, length-number_bits (short_width bits + 1) 0)
identifier-some bits SecondExtension = omega (arith, length-number_bits (short_width bits + 1) 1)
identifier-some bits (Split k) = omega (arith, length-number_bits (short_width bits) (k + 1), short-least bits)
identifier-some bits Uncoded =
    omega (arith, length-number_bits (short_width bits) (2 ^ short_width bits - 1), short-least bits)

string-some : (form : Form) (all : List ℕ) (reference : ℕ) → ArePlaces form all → 0 < block_count form
    → 1 ≤ length (string_from form reference 0 (parts_from form all (block_count form) 0))
string-some form all reference are some =
    let part = next_part form all 0 in
    let span = span_of (left_in_segment form 0) part in
    let option = option_of part in
    let later = string_from form reference (0 + span) (parts_from form all (block_count form) (0 + span)) in
    let head = head_string form.bits true reference option in
    omega (
      arith,
      ap length (string-next form all reference 0 span are some refl),
      length-append (part_string form.bits true reference part) later,
      length-append head (body_string form.bits true part),
      length-append (identifier form.bits option) (number_bits form.bits reference),
      identifier-some form.bits option,
    )

-- a row is coded in some bytes, which begin with a coding of it
record IsRead (form : Form) (row bytes : List ℕ) : Type 0 where
  some : 1 ≤ length bytes
  begins : BeginsWithLines form 1 row (bits_of bytes)

row_read : (form : Form) (row bytes : List ℕ) → IsRow form row → 1 ≤ length row → IsCodedLine form row bytes
    → IsRead form row bytes
row_read form [] bytes row some coded = absurd (omega arith)
row_read form (reference ∷ samples) bytes row some coded =
    let wide = block-wide form row.codable in
    let blocks = block_count-pos form (omega (arith, wide)) (omega (arith, row.columns)) in
    let long = string-some form (line_places form (reference ∷ samples)) reference
    (row_places form reference samples row) blocks in
    record {
      some = omega (arith, fillings_are_whole (shortest_string form (reference ∷ samples)) bytes coded.fills, long);
      begins = coded_is_decoded form reference samples bytes row coded.fills;
    }

-- ---- the rows of an image

small_pixels : (picture : Picture) → IsPicture picture → (k : ℕ) → get_or picture.pixels k 0 ≤ greatest picture.bits
small_pixels picture is k =
    elim (cases_lt k (length picture.pixels)) [
      | inl inside ↦ omega (arith, is.small k 0 inside)
      | inr past ↦ omega (arith, get_or_past picture.pixels k 0 past)
    ]

-- an image whose lines can be coded
record IsCodable' (picture : Picture) (block : ℕ) : Type 0 where
  is : IsPicture picture
  deep : 5 ≤ picture.bits
  some : 1 ≤ picture.columns
  block_is : IsBlockSize block

is_row : (picture : Picture) (block line : ℕ) → IsCodable' picture block → line < picture.lines
    → IsRow (form_with picture block) (line_pixels picture line)
is_row picture block line can inside = record {
  codable = record { least_bits = can.deep; most_bits = can.is.most; block = can.block_is };
  columns = sym (line_whole picture line can.is.whole inside);
  small = λ k d within. omega (
    arith,
    pow_pos picture.bits,
    cut-small picture.pixels (greatest picture.bits) picture.columns (line * picture.columns)
        (small_pixels picture can.is) k d within,
  );
}

-- lines from one on
abbrev rows : Picture → ℕ → ℕ → List (List ℕ)
rows picture from n = map (line_pixels picture) (range_with_len from n)

row_is_read : (picture : Picture) (block line : ℕ) (bytes : List ℕ) → IsCodable' picture block → line < picture.lines
    → IsCodedLine (form_with picture block) (line_pixels picture line) bytes
    → IsRead (form_with picture block) (line_pixels picture line) bytes
row_is_read picture block line bytes can inside coded =
    row_read (form_with picture block) (line_pixels picture line) bytes (is_row picture block line can inside)
    (omega (arith, line_whole picture line can.is.whole inside, can.some)) coded

rows_given : (picture : Picture) (block from n : ℕ) (lines : List (List ℕ)) → IsCodable' picture block
    → from + n ≤ picture.lines → AllZip (IsCodedLine (form_with picture block)) (rows picture from n) lines
    → GiveLines (form_with picture block) 1 n lines (concat (rows picture from n))
rows_given picture block from zero [] can inside coded = (refl, refl)
rows_given picture block from zero (line ∷ lines) can inside coded = absurd coded
rows_given picture block from (suc n) [] can inside coded = absurd coded
rows_given picture block from (suc n) (line ∷ lines) can inside coded =
    let form = form_with picture block in
    let row = line_pixels picture from in
    let read = row_is_read picture block from line can (omega arith) coded.0 in
    let one : 1 ≡ min 1 (suc n) = omega arith in
    let left : n ≡ suc n - 1 = omega arith in
    let later = rows_given picture block (from + 1) n lines can (omega arith) coded.1 in
    record {
      front = row;
      begins = subst (λ (k : ℕ). BeginsWithLines form k row (bits_of line)) one read.begins;
      back = concat (rows picture (from + 1) n);
      others = subst (λ (k : ℕ). GiveLines form 1 k lines (concat (rows picture (from + 1) n))) left later;
      are_samples = refl;
    }

rows-pixels : (picture : Picture) (from n : ℕ)
    → concat (rows picture from n) ≡ take (n * picture.columns) (drop (from * picture.columns) picture.pixels)
rows-pixels picture from zero =
    let none : 0 * picture.columns ≡ 0 = omega arith in
    sym (ap (λ (k : ℕ). take k (drop (from * picture.columns) picture.pixels)) none)
rows-pixels picture from (suc n) =
    let columns = picture.columns in
    let rest = drop (from * columns) picture.pixels in
    let next : (from + 1) * columns ≡ from * columns + columns = omega arith in
    let whole : suc n * columns ≡ columns + n * columns = omega arith in
    ap (λ (l : List ℕ). take columns rest ++ l) (rows-pixels picture (from + 1) n
    ∙ ap (λ (k : ℕ). take (n * columns) (drop k picture.pixels)) next
    ∙ ap (take (n * columns)) (sym (drop-drop columns (from * columns) picture.pixels)))
    ∙ sym (ap (λ (k : ℕ). take k rest) whole ∙ take-add columns (n * columns) rest)

all_rows : (picture : Picture) → IsPicture picture → concat (rows_of picture) ≡ picture.pixels
all_rows picture is =
    let none : 0 * picture.columns ≡ 0 = omega arith in
    rows-pixels picture 0 picture.lines
    ∙ ap (λ (k : ℕ). take (picture.lines * picture.columns) (drop k picture.pixels)) none
    ∙ take_all (picture.lines * picture.columns) picture.pixels (omega (arith, is.whole))

-- ---- pieces

piece_there : (piece : List ℕ) (pieces : List (List ℕ)) → 1 ≤ length piece → piece_with piece pieces ≡ piece ∷ pieces
piece_there [] pieces some = absurd (omega arith)
piece_there (byte ∷ bytes) pieces some = refl

lines_are_pieces : (picture : Picture) (block from n : ℕ) (lines : List (List ℕ)) → IsCodable' picture block
    → from + n ≤ picture.lines → AllZip (IsCodedLine (form_with picture block)) (rows picture from n) lines
    → pieces_after 0 lines ≡ lines
lines_are_pieces picture block from zero [] can inside coded = refl
lines_are_pieces picture block from zero (line ∷ lines) can inside coded = absurd coded
lines_are_pieces picture block from (suc n) [] can inside coded = absurd coded
lines_are_pieces picture block from (suc n) (line ∷ lines) can inside coded =
    let read = row_is_read picture block from line can (omega arith) coded.0 in
    let none : 0 - length line ≡ 0 = omega arith in
    piece_there line (pieces_after (0 - length line) lines) read.some
    ∙ ap (λ (k : ℕ). line ∷ pieces_after k lines) none
    ∙ ap (λ (l : List (List ℕ)). line ∷ l) (lines_are_pieces picture block (from + 1) n lines can (omega arith) coded.1)

first_passed : (first : List ℕ) (lines : List (List ℕ)) (skipped : ℕ) → length first ≡ skipped
    → pieces_after skipped (first ∷ lines) ≡ pieces_after 0 lines
first_passed first lines skipped size =
    let none : skipped - length first ≡ 0 = omega arith in
    ap (λ (l : List ℕ). piece_with l (pieces_after (skipped - length first) lines))
    (drop_all skipped first (omega arith))
    ∙ ap (λ (k : ℕ). pieces_after k lines) none

-- ---- what the old header says

-- the header's structure, and that no key hides the image
record IsShown (header : Header) (s : Structure) : Type 0 where
  says : structure_of header ≡ Some s
  shown : is_encrypted header ≡ false

from_unless : (o : Option ImageFault) (r : Result Shape ImageFault) (shape : Shape) → unless o r ≡ Ok shape
    → r ≡ Ok shape
from_unless (Some fault) r shape e = absurd (cc)
from_unless None r shape e = e

made_of : (s : Structure) (l : Option Lossless) (shape : Shape)
    → ◌≡◌ {A = Result Shape ImageFault} (Ok (record { structure = s; lossless = l })) (Ok shape) → s ≡ shape.structure
made_of s l shape e =
    let made : Shape = record { structure = s; lossless = l } in
    let same : made ≡ shape = cc in
    ap (λ (x : Shape). x.structure) same

lossless_of_it : (s : Structure) (o : Option Lossless) (shape : Shape) → lossless_shape s o ≡ Ok shape
    → s ≡ shape.structure
lossless_of_it s None shape e = absurd (cc)
lossless_of_it s (Some l) shape e =
    made_of s (Some l) shape (from_unless (lossless_fault l) _ shape (from_unless (size_fault 5 s) _ shape e))

coded_by : (a b : Bool) (value : ℕ) (s : Structure) (o : Option Lossless) (shape : Shape)
    → cond a (plain_shape s) (cond b (lossless_shape s o) (Err (Compression value))) ≡ Ok shape → s ≡ shape.structure
coded_by true b value s o shape e = made_of s None shape (from_unless (size_fault 1 s) _ shape e)
coded_by false true value s o shape e = lossless_of_it s o shape e
coded_by false false value s o shape e = absurd (cc)

hidden_by : (header : Header) (hidden : Bool) (s : Structure) (shape : Shape) → is_encrypted header ≡ hidden
    → structure_of header ≡ Some s → cond hidden (Err Encrypted) (coded_shape s (lossless_of header)) ≡ Ok shape
    → IsShown header shape.structure
hidden_by header true s shape is says e = absurd (cc)
hidden_by header false s shape is says e =
    let same = coded_by (eqb s.compression 0) (eqb s.compression 1) s.compression s (lossless_of header) shape e in
    record { says = says ∙ ap (λ (x : Structure). Some x) same; shown = is }

structured_by : (header : Header) (o : Option Structure) (shape : Shape) → structure_of header ≡ o
    → structured_shape o header ≡ Ok shape → IsShown header shape.structure
structured_by header None shape is e = absurd (cc)
structured_by header (Some s) shape is e = hidden_by header (is_encrypted header) s shape refl is e

typed_by : (header : Header) (other : Bool) (kind : ℕ) (shape : Shape)
    → cond other (Err (NotImage kind)) (structured_shape (structure_of header) header) ≡ Ok shape
    → IsShown header shape.structure
typed_by header true kind shape e = absurd (cc)
typed_by header false kind shape e = structured_by header (structure_of header) shape refl e

shown : (header : Header) (shape : Shape) → shape_of header ≡ Ok shape → IsShown header shape.structure
shown header shape e = typed_by header (not (eqb (file_type header) 0)) (file_type header) shape e

least_size : (s : Structure) (o : Option Lossless) → IsShape (record { structure = s; lossless = o }) → IsSize 1 s
least_size s None is = is
least_size s (Some l) is = record {
  least_bits = omega (arith, is.0.least_bits);
  most_bits = is.0.most_bits;
  columns = is.0.columns;
  lines = is.0.lines;
  few = is.0.few;
}

picture_is : (picture : Picture) (s : Structure) → picture.bits ≡ s.bits → picture.columns ≡ s.columns
    → picture.lines ≡ s.lines
    → IsPicture (record { bits = s.bits; columns = s.columns; lines = s.lines; pixels = picture.pixels })
    → IsPicture picture
picture_is picture s bits columns lines is = record {
  least = omega (arith, bits, is.least);
  most = omega (arith, bits, is.most);
  whole = is.whole ∙ ap (λ (c : ℕ). c * s.lines) (sym columns) ∙ ap (λ (l : ℕ). picture.columns * l) (sym lines);
  small = subst (λ (b : ℕ). All (λ pixel. pixel < 2 ^ b) picture.pixels) (sym bits) is.small;
}

size_is : (picture : Picture) (s : Structure) → picture.bits ≡ s.bits → picture.columns ≡ s.columns
    → picture.lines ≡ s.lines → IsSize 1 s → IsSize 1 (structure_from picture.bits picture.columns picture.lines)
size_is picture s bits columns lines is = record {
  least_bits = omega (arith, bits, is.least_bits);
  most_bits = omega (arith, bits, is.most_bits);
  columns = omega (arith, columns, is.columns);
  lines = omega (arith, lines, is.lines);
  few = omega (
    arith,
    is.few,
    ap (λ (c : ℕ). c * s.lines) columns,
    ap (λ (l : ℕ). picture.columns * l) lines,
  );
}

-- the header that the image was found by is the file's
pub record IsKnown (file : File) (picture : Picture) (header : Header) (s : Structure) : Type 0 where
  pub says : structure_of header ≡ Some s
  pub shown : is_encrypted header ≡ false
  pub size : IsSize 1 s
  pub is : IsPicture picture
  pub bits : picture.bits ≡ s.bits
  pub columns : picture.columns ≡ s.columns
  pub lines : picture.lines ≡ s.lines

pub known : (file : File) (picture : Picture) (header : Header) → IsImageOf file picture
    → IsHeaderOf (proper_of file) header → (s : Structure) × IsKnown file picture header s
known file picture header image is_header =
    let layout = image.layout in
    let has = image.has_layout in
    let same : has.header ≡ header = headers_are_one (proper_of file) has.header header has.is_header is_header in
    let s = layout.shape.structure in
    let seen = shown has.header layout.shape has.is_shape in
    let sound = shape_sound has.header layout.shape has.is_shape in
    let size = least_size s layout.shape.lossless sound in (
      s,
      record {
        says = subst (λ (h : Header). structure_of h ≡ Some s) same seen.says;
        shown = subst (λ (h : Header). is_encrypted h ≡ false) same seen.shown;
        size = size;
        is = picture_is picture s image.bits image.columns image.lines
            (makes_picture file layout.header_bytes s layout.shape.lossless picture.pixels sound image.pixels);
        bits = image.bits;
        columns = image.columns;
        lines = image.lines;
      },
    )

-- keys among the records that stay
keys_of : (header : Header) → is_encrypted header ≡ false
    → list_any (is_key header.bytes) (others_of header.entries) ≡ false
keys_of header none = by_entries header.bytes header.entries none
  where
    by_entries : (bytes : List ℕ) (entries : List Entry) → list_any (is_key bytes) entries ≡ false
        → list_any (is_key bytes) (others_of entries) ≡ false
    by_entries bytes [] none = refl
    by_entries bytes (first ∷ entries) none = no_key_kept bytes entries (second (is_key bytes first) none)
      where
        second : (a : Bool) → (a || list_any (is_key bytes) entries) ≡ false → list_any (is_key bytes) entries ≡ false
        second true none = absurd (cc)
        second false none = none

-- ---- the new file

pub repacked_keeps_image : RepackedKeepsImage
repacked_keeps_image file new block is_block re =
    let picture = re.picture in
    let header = re.header in
    let lines = re.lines in
    let known_is = known file picture header re.source.is_image re.source.is_header in
    let s = known_is.0 in
    let k = known_is.1 in
    let total = length (concat lines) in
    let bytes = new_records header picture block (8 * total) in
    let body = first_body file header picture block total in
    let body_size : length body ≡ 10 + records_size header =
    omega (
      arith,
      length-append (transport_header (counter_of file) (8 * (records_size header + total))) bytes,
      new_size header picture block (8 * total),
    ) in
    let is_file = subst IsFile re.is_new re.is_file in
    let short : length body ≤ most_body_bytes = is_file.short 0 [] (omega arith) in
    let stand = others_stand header re.source.is_header.tiled in
    let is_header = new_header_is header picture block (8 * total) (concat lines) stand
    (omega (arith, short, body_size)) in
    let shape = shape_is header picture block (8 * total) stand (keys_of header k.shown) re.narrow.columns
    re.narrow.lines is_block re.source.deep (size_is picture s k.bits k.columns k.lines k.size) in
    let can : IsCodable' picture block = record {
      is = k.is;
      deep = re.source.deep;
      some = omega (arith, k.columns, k.size.columns);
      block_is = is_block;
    } in
    let form = form_with picture block in
    let pieces : pieces_after (10 + length bytes) (body ∷ lines) ≡ lines =
    first_passed body lines (10 + length bytes) (omega (arith, body_size, new_size header picture block (8 * total)))
    ∙ lines_are_pieces picture block 0 picture.lines lines can (omega arith) re.coded in
    let given : GiveLines form 1 picture.lines lines picture.pixels =
    subst (λ (l : List ℕ). GiveLines form 1 picture.lines lines l) (all_rows picture k.is)
    (rows_given picture block 0 picture.lines lines can (omega arith) re.coded) in
    let image : IsImageOf (repacked_file file header picture block lines) picture = record {
      layout = record { header_bytes = length bytes; shape = new_shape picture block };
      has_layout = record {
        header = new_header header picture block (8 * total);
        is_header = is_header;
        is_size = refl;
        is_shape = shape;
      };
      bits = refl;
      columns = refl;
      lines = refl;
      pixels = subst (λ (l : List (List ℕ)). GiveLines form 1 picture.lines l picture.pixels) (sym pieces) given;
    } in
    record {
      picture = picture;
      of_one = re.source.is_image;
      of_other = subst (λ (f : File). IsImageOf f picture) (sym re.is_new) image;
    }

pub repacked_keeps_name : RepackedKeepsName
repacked_keeps_name file new block re =
    let picture = re.picture in
    let header = re.header in
    let size = length (concat re.lines) in
    let body = first_body file header picture block size in
    let rest = drop 2 (body ++ concat re.lines) in
    record {
      channel = ap (λ (f : File). f.vc) re.is_new;
      application = ap (λ (f : File). f.apid) re.is_new;
      counter = ap (λ (f : File). counter_of f) re.is_new
          ∙ big_number-reads_back 2 (counter_of file) rest re.narrow.counter;
    }

-- ---- the lengths that the new file tells

pub repacked_tells_lengths : RepackedTellsLengths
repacked_tells_lengths file new block re =
    let picture = re.picture in
    let header = re.header in
    let size = length (concat re.lines) in
    let bytes = new_records header picture block (8 * size) in
    let body = first_body file header picture block size in
    let whole : length (bytes ++ concat re.lines) ≡ records_size header + size =
    omega (arith, length-append bytes (concat re.lines), new_size header picture block (8 * size)) in
    let body_size : length body ≡ 10 + records_size header =
    omega (
      arith,
      length-append (transport_header (counter_of file) (8 * (records_size header + size))) bytes,
      new_size header picture block (8 * size),
    ) in
    let is_file = subst IsFile re.is_new re.is_file in
    let few : records_size header + size ≤ most_file_bytes =
    omega (arith, is_file.most, length-append body (concat re.lines), body_size) in
    let told = big_number-reads_back 8 (8 * (records_size header + size)) (bytes ++ concat re.lines)
    (omega (arith, few)) in
    let proper : declared_bits_of new ≡ real_bits_of new =
    ap (λ (f : File). declared_bits_of f) re.is_new ∙ told
    ∙ ap (λ (n : ℕ). 8 * n) (sym whole) ∙ ap (λ (f : File). real_bits_of f) (sym re.is_new) in
    let stand = others_stand header re.source.is_header.tiled in
    let short = is_file.short 0 [] (omega arith) in
    let read = new_header_is header picture block (8 * size) (concat re.lines) stand
    (omega (arith, short, body_size)) in
    record {
      proper = proper;
      header = new_header header picture block (8 * size);
      is_header = subst (λ (f : File). IsHeaderOf (proper_of f) (new_header header picture block (8 * size)))
          (sym re.is_new) read;
      field = new_data_bits header picture block (8 * size) (omega (arith, few))
          ∙ ap (λ (l : List ℕ). 8 * length l) (sym (drop_at bytes (concat re.lines) (length bytes) refl))
          ∙ ap (λ (f : File). 8 * length (drop (length bytes) (proper_of f))) (sym re.is_new);
    }
