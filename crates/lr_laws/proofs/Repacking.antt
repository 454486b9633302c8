-- Each file has an outcome of `repack`.
use Rattle.std.proofs.Common.{◌≡◌, ◌⊎◌, ℕ, zero, suc, ◌+◌, ◌*◌, ◌<◌, ◌≤◌, Option, Some, None, Result, Ok, Err, List}
use Rattle.std.proofs.Common.{[]}
use Rattle.std.proofs.Common.{◌∷◌, length, take, drop, get_or, map, All, refl, sym, subst, arith, inl, inr}
use Rattle.std.proofs.Common.{length-append}
use Rattle.std.specs.Prelude.{find}
use Rattle.std.specs.Option.{option_map}
use Rattle.std.specs.List.{AllZip, concat, range_with_len}
use Rattle.std.proofs.lemmas.Bool.{cases_lt}
use Rattle.std.proofs.lemmas.List.{get_or-drop, get_or_past}
use Rattle.byteorder.specs.Endian.{big_number}
use Rattle.lr_bits.specs.File.{File, IsFile, bytes_of, counter_of, proper_of}
use Rattle.lr_bits.specs.Sizes.{most_body_bytes, most_file_bytes}
use Rattle.lr_bits.specs.Written.{transport_header}
use Rattle.lr_headers.specs.Fields.{contents_of, structure_in, structure_of}
use Rattle.lr_headers.specs.Tiling.{Header, file_header_bytes, number_at}
use Rattle.lr_headers.specs.declared.entry.Entry.{Entry}
use Rattle.lr_headers.specs.declared.fields.Structure.{Structure}
use Rattle.lr_image.specs.Images.{HasOutcome}
use Rattle.lr_image.specs.Pgm.{line_pixels}
use Rattle.lr_image.specs.Picture.{Picture}
use Rattle.lr_image.specs.declared.fault.ImageFault.{ImageFault}
use Rattle.lr_image.proofs.EachFile.{files_have_outcomes}
use Rattle.lr_rice.proofs.EachItem.{more_at, none_at}
use Rattle.lr_rice_coder.specs.Coded.{IsCodedLine, byte_count}
use Rattle.lr_rice_coder.specs.Refusals.{AreShort, HasRepackOutcome, IsLongAt}
use Rattle.lr_rice_coder.specs.Repacked.{AreCodedLines, IsNarrow, IsSource, file_size, first_body, first_size}
use Rattle.lr_rice_coder.specs.Repacked.{form_with, new_records, records_size, repacked_file}
use Rattle.lr_rice_coder.specs.Shortest.{shortest_string}
use Rattle.lr_rice_coder.specs.declared.fault.RepackFault.{RepackFault}
use Rattle.lr_rice_coder.specs.declared.fault.RepackFault.TheVariants as fault
use Rattle.lr_rice_coder.proofs.MakingLemmas.{file_is, lines_size}
use Rattle.lr_rice_coder.proofs.NewFiles.{new_size}
use Rattle.lr_rice_coder.proofs.NewImages.{known}
use Rattle.lr_laws.proofs.Filling.{filled, shortest-bits}
use Rattle.lr_laws.specs.Repacks.{RepacksHaveOutcomes}

-- ---- lines

-- the first line that takes too many bytes, or none of the first ones does
pub record FirstLong (picture : Picture) (block count : ℕ) : Type 0 where
  pub line : ℕ
  pub inside : line < count
  pub long : IsLongAt picture block line
  pub first : AreShort picture block line

long_or_not : (picture : Picture) (block count : ℕ) → FirstLong picture block count ⊎ AreShort picture block count
long_or_not picture block zero = inr (λ line inside long. omega (arith, inside))
long_or_not picture block (suc count) = elim (long_or_not picture block count) [
  | inl found ↦
      inl (record {
        line = found.line;
        inside = omega (arith, found.inside);
        long = found.long;
        first = found.first;
      })
  | inr short ↦ elim
      (cases_lt most_body_bytes (byte_count (shortest_string (form_with picture block) (line_pixels picture count)))) [
        | inl long ↦ inl (record { line = count; inside = omega arith; long = long; first = short })
        | inr fits ↦ inr (λ line inside long. elim (cases_lt line count) [
          | inl before ↦ short line before long
          | inr after ↦
              let here : line ≡ count = omega (arith, inside, after) in
              let there : IsLongAt picture block count = subst (λ (l : ℕ). IsLongAt picture block l) here long in
              omega (arith, there, fits)
        ])
      ]
]

-- lines that are short enough are coded
coded_lines : (picture : Picture) (block from count : ℕ)
    → ((line : ℕ) → from ≤ line → line < from + count → IsLongAt picture block line → ⊥) → (lines : List (List ℕ))
    × AllZip (IsCodedLine (form_with picture block)) (map (line_pixels picture) (range_with_len from count)) lines
coded_lines picture block from zero short = ([], tt)
coded_lines picture block from (suc count) short =
    let row = line_pixels picture from in
    let one = filled (shortest_string (form_with picture block) row) (shortest-bits (form_with picture block) row) in
    let rest = coded_lines picture block (from + 1) count
    (λ line after inside. short line (omega (arith, after)) (omega (arith, inside))) in
    let fits : length one.bytes ≤ most_body_bytes =
    elim (cases_lt most_body_bytes (byte_count (shortest_string (form_with picture block) row))) [
      | inl long ↦ absurd (short from (omega arith) (omega arith) long)
      | inr fits ↦ omega (arith, fits, one.count)
    ] in
    (one.bytes ∷ rest.0, (record { small = one.small; fills = one.fills; short = fits }, rest.1))

-- ---- numbers of two bytes

abbrev AreBytes : List ℕ → Type 0
AreBytes bytes = All (λ byte. byte < 256) bytes

-- at each place there is one, or 0
abbrev pub Small : List ℕ → Type 0
Small bytes = (place : ℕ) → get_or bytes place 0 < 256

pub small_places : (bytes : List ℕ) → AreBytes bytes → Small bytes
small_places bytes small place = elim (cases_lt place (length bytes)) [
  | inl inside ↦ small place 0 inside
  | inr past ↦ omega (arith, get_or_past bytes place 0 past)
]

pub places_small : (bytes : List ℕ) → Small bytes → AreBytes bytes
places_small [] small = none_at (λ (byte : ℕ). byte < 256)
places_small (byte ∷ bytes) small =
    more_at (λ (byte : ℕ). byte < 256) byte bytes (small 0) (places_small bytes (λ place. small (suc place)))

small_number : (bytes : List ℕ) → Small bytes → big_number 2 bytes < 65536
small_number bytes small = omega (arith, small 0, small 1)

pub dropped_small : (count : ℕ) (bytes : List ℕ) → Small bytes → Small (drop count bytes)
dropped_small count bytes small place =
    subst (λ (byte : ℕ). byte < 256) (sym (get_or-drop count bytes place 0)) (small (count + place))

none_small : (place : ℕ) → get_or [] place 0 < 256
none_small place = let none : List ℕ = [] in omega (arith, get_or_past none place 0 (omega arith))

pub taken_small : (count : ℕ) (bytes : List ℕ) → Small bytes → Small (take count bytes)
taken_small zero bytes small place = none_small place
taken_small (suc count) [] small place = none_small place
taken_small (suc count) (byte ∷ bytes) small zero = small 0
taken_small (suc count) (byte ∷ bytes) small (suc place) = taken_small count bytes (λ k. small (suc k)) place

-- the sizes of an image that a header of bytes tells
sizes_small : (header : Header) (s : Structure) → Small header.bytes
    → structure_of header ≡ Some s → (s.columns < 65536) × (s.lines < 65536)
unfolding number_at
sizes_small header s small says = by_contents (find _ header.entries) says
  where
    by_contents : (entry : Option Entry)
        → option_map structure_in (option_map (contents_of header.bytes) entry) ≡ Some s
        → (s.columns < 65536) × (s.lines < 65536)
    by_contents None is = cc (is)
    by_contents (Some e) is =
        let contents = contents_of header.bytes e in
        let same : structure_in contents ≡ s = cc (is) in
        let bytes = taken_small _ _ (dropped_small (e.at + 3) header.bytes small) in (
          subst (λ (t : Structure). t.columns < 65536) same
              (small_number (drop 1 contents) (dropped_small 1 contents bytes)),
          subst (λ (t : Structure). t.lines < 65536) same
              (small_number (drop 3 contents) (dropped_small 3 contents bytes)),
        )

-- ---- the file

module _ (file : File) (block : ℕ) (is_file : IsFile file) (small : AreBytes (bytes_of file)) where
  abbrev Outcome : Type 0
  Outcome = (outcome : Result File RepackFault) × HasRepackOutcome file block outcome

  narrow : (picture : Picture) (header : Header) → IsSource file picture header → IsNarrow file picture
  narrow picture header source =
      let found = known file picture header source.is_image source.is_header in
      let s = found.0 in
      let k = found.1 in
      let bytes = small_places (bytes_of file) small in
      let sizes = sizes_small header s
      (subst Small (sym source.is_header.bytes)
      (header_small (proper_of file) (dropped_small 10 (bytes_of file) bytes))) k.says in
      record {
        counter = small_number (bytes_of file) bytes;
        columns = omega (arith, k.columns, sizes.0);
        lines = omega (arith, k.lines, sizes.1);
      }
    where
      header_small : (proper : List ℕ) → Small proper → Small (file_header_bytes proper)
      header_small proper all = taken_small _ proper all

  -- all lines are short enough, and so are the first body and the file
  anew : (picture : Picture) (header : Header) → IsSource file picture header → AreShort picture block picture.lines
      → first_size header ≤ most_body_bytes → file_size header picture block ≤ most_file_bytes → Outcome
  anew picture header source short fits few =
      let made = coded_lines picture block 0 picture.lines
      (λ line after inside. short line (omega (arith, inside))) in
      let lines = made.0 in
      let coded : AreCodedLines picture block lines = made.1 in
      let small_sizes = narrow picture header source in
      let size = length (concat lines) in
      let first = first_body file header picture block size in
      let first_is : length first ≡ first_size header =
      omega (
        arith,
        length-append (transport_header (counter_of file) (8 * (records_size header + size)))
            (new_records header picture block (8 * size)),
        new_size header picture block (8 * size),
      ) in (
        Ok (repacked_file file header picture block lines),
        record {
          picture = picture;
          header = header;
          source = source;
          narrow = small_sizes;
          lines = lines;
          coded = coded;
          is_new = refl;
          is_file = file_is file.vc file.apid first picture block lines is_file.channel is_file.application coded
              small_sizes.lines (omega (arith, first_is)) (omega (arith, first_is, fits))
              (omega (arith, first_is, few, lines_size picture block lines coded));
        },
      )

  -- all lines are short enough
  by_size : (picture : Picture) (header : Header) → IsSource file picture header
      → AreShort picture block picture.lines → Outcome
  by_size picture header source short = elim (cases_lt most_body_bytes (first_size header)) [
    | inl long ↦ (
      Err (fault.Header (first_size header)),
      record { picture = picture; header = header; source = source; short = short; size_is = refl; long = long },
    )
    | inr fits ↦ elim (cases_lt most_file_bytes (file_size header picture block)) [
      | inl long ↦ (
        Err (fault.File (file_size header picture block)),
        record {
          picture = picture;
          header = header;
          source = source;
          short = short;
          fits = fits;
          size_is = refl;
          long = long;
        },
      )
      | inr few ↦ anew picture header source short fits few
    ]
  ]

  by_image : (image : Result Picture ImageFault) → HasOutcome file image → Outcome
  by_image (Err cause) has = (Err (fault.Image cause), has)
  by_image (Ok picture) is = elim (cases_lt picture.bits 5) [
    | inl few ↦ (
      Err (fault.Depth picture.bits),
      record { picture = picture; is_image = is; are_bits = refl; few = few },
    )
    | inr deep ↦
        let header = is.has_layout.header in
        let source : IsSource file picture header =
        record { is_image = is; deep = omega (arith, deep); is_header = is.has_layout.is_header } in
        elim (long_or_not picture block picture.lines) [
          | inl found ↦ (
            Err (fault.Line found.line),
            record {
              picture = picture;
              header = header;
              source = source;
              has = record { inside = found.inside; long = found.long; first = found.first };
            },
          )
          | inr short ↦ by_size picture header source short
        ]
  ]

pub repacks_have_outcomes : RepacksHaveOutcomes
repacks_have_outcomes file block is_file small is_block =
    let there = files_have_outcomes file in by_image file block is_file small there.0 there.1
