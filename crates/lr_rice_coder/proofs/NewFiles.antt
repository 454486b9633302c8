-- The header of a file that is coded anew, and its image.
use Rattle.std.proofs.Common.{◌≡◌, ℕ, suc, ◌*◌, ◌^◌, ◌<◌, ◌≤◌, Bool, false, not, ◌||◌}
use Rattle.std.proofs.Common.{eqb, ltb, cond, Option, Some, None, Ok, Err, List, [], ◌∷◌, ◌++◌, length, take}
use Rattle.std.proofs.Common.{drop, refl, sym, ap, ◌∙◌, subst, arith, inl, inr, length-append}
use Rattle.std.specs.List.{list_any}
use Rattle.std.proofs.lemmas.Bool.{lt-leb}
use Rattle.std.proofs.lemmas.List.{take_at}
use Rattle.byteorder.specs.Endian.{big_bytes, big_number}
use Rattle.byteorder.specs.Numbers.{big_number-reads_back}
use Rattle.lr_bits.specs.Written.{primary_record}
use Rattle.lr_headers.specs.Fields.{data_bits, file_type, is_encrypted, is_key, lossless_of, structure_of}
use Rattle.lr_headers.specs.Tiling.{Header, IsPrefix, IsHeaderOf, IsRecord, IsTiled, IsTiling}
use Rattle.lr_headers.specs.Tiling.{has_wrong_length, header_length, length_at, number_at}
use Rattle.lr_headers.specs.declared.entry.Entry.{Entry}
use Rattle.lr_headers.specs.declared.fields.Structure.{Structure}
use Rattle.lr_headers.specs.declared.fields.Lossless.{Lossless}
use Rattle.lr_image.specs.Picture.{Picture}
use Rattle.lr_image.specs.Shapes.{IsSize, coded_shape, lossless_fault, shape_of, size_fault, structured_shape, unless}
use Rattle.lr_image.specs.declared.fault.ImageFault.{ImageFault}
use Rattle.lr_image.specs.declared.fault.ImageFault.TheVariants.{Encrypted}
use Rattle.lr_image.specs.declared.shape.Shape.{Shape}
use Rattle.lr_image.specs.Shapes.{most_pixels}
use Rattle.lr_rice.proofs.LineLemmas.{not_first}
use Rattle.lr_rice_coder.specs.Coded.{IsBlockSize}
use Rattle.lr_rice_coder.specs.Repacked.{lossless_record, new_records, other_records, others_of}
use Rattle.lr_rice_coder.specs.Repacked.{records_size, lossless_structure}
use Rattle.lr_rice_coder.proofs.NewHeaders.{AllStand, moved, moved_keys, moved_tiling, sound_record}
use Rattle.lr_rice_coder.proofs.NewHeaders.{filter_stands, past, tiling_stands}

-- ---- the new header

-- the records that are written anew
abbrev pub new_front : Header → Picture → ℕ → ℕ → List ℕ
new_front header picture block data_bits =
    primary_record 0 (records_size header) data_bits ++ lossless_structure picture ++ lossless_record block

abbrev primary : Entry
primary = record { kind = 0; at = 0; length = 16 }

abbrev structure : Entry
structure = record { kind = 1; at = 16; length = 9 }

abbrev lossless : Entry
lossless = record { kind = 131; at = 25; length = 7 }

abbrev pub new_header : Header → Picture → ℕ → ℕ → Header
new_header header picture block data_bits = record {
  bytes = new_records header picture block data_bits;
  entries = primary ∷ structure ∷ lossless ∷ moved 32 (others_of header.entries);
}

front_size : (header : Header) (picture : Picture) (block data_bits : ℕ)
    → length (new_front header picture block data_bits) ≡ 32
front_size header picture block data_bits = refl

pub new_size : (header : Header) (picture : Picture) (block data_bits : ℕ)
    → length (new_records header picture block data_bits) ≡ records_size header
new_size header picture block data_bits =
    length-append (new_front header picture block data_bits) (other_records header)

pub others_stand : (header : Header) → IsTiled header → AllStand header.bytes (others_of header.entries)
others_stand header tiled = by_front header.bytes header.entries (length header.bytes) tiled.front
  where
    by_front : (bytes : List ℕ) (entries : List Entry) (to : ℕ) → IsPrefix bytes entries to
        → AllStand bytes (others_of entries)
    by_front bytes [] to front = tt
    by_front bytes (first ∷ entries) to front = filter_stands bytes entries (tiling_stands bytes 16 entries to front.1)

-- ---- what its records are

abbrev pub structure_from : ℕ → ℕ → ℕ → Structure
structure_from bits columns lines = record { bits = bits; columns = columns; lines = lines; compression = 1 }

module _ (header : Header) (picture : Picture) (block data_bits : ℕ) where
  abbrev bytes : List ℕ
  bytes = new_records header picture block data_bits

  structure_size : length_at 16 bytes ≡ 9
  unfolding number_at
  structure_size = refl

  lossless_size : length_at 25 bytes ≡ 7
  unfolding number_at
  lossless_size = refl

  structure_is : IsRecord bytes 16 structure
  structure_is =
      let size = new_size header picture block data_bits in
      record {
        below = omega (arith, size);
        sound = sound_record bytes 16 (omega (arith, size, structure_size)) (omega (arith, structure_size))
            (ap (λ (n : ℕ). has_wrong_length 1 n) structure_size);
        here = refl;
        kind = refl;
        size = sym structure_size;
      }

  lossless_is : IsRecord bytes 25 lossless
  lossless_is =
      let size = new_size header picture block data_bits in
      record {
        below = omega (arith, size);
        sound = sound_record bytes 25 (omega (arith, size, lossless_size)) (omega (arith, lossless_size))
            (ap (λ (n : ℕ). has_wrong_length 131 n) lossless_size);
        here = refl;
        kind = refl;
        size = sym lossless_size;
      }

  pub new_tiled : AllStand header.bytes (others_of header.entries) → IsTiled (new_header header picture block data_bits)
  new_tiled stand =
      let size = new_size header picture block data_bits in
      let later : IsTiling bytes 32 (moved 32 (others_of header.entries)) (length bytes) =
      moved_tiling (new_front header picture block data_bits) header.bytes (others_of header.entries) stand in
      record {
        least = omega (arith, size);
        front = (record { kind = refl; here = refl; size = refl }, (structure_is, (lossless_is, later)));
      }

  -- no key record of the old header has come to hide the image
  pub new_keys : AllStand header.bytes (others_of header.entries)
      → list_any (is_key header.bytes) (others_of header.entries) ≡ false
      → is_encrypted (new_header header picture block data_bits) ≡ false
  new_keys stand none =
      moved_keys (new_front header picture block data_bits) header.bytes (others_of header.entries) stand ∙ none

  pub new_type : file_type (new_header header picture block data_bits) ≡ 0
  new_type = refl

  -- what the structure record says
  abbrev new_structure : Structure
  new_structure = record { bits = picture.bits; columns = picture.columns; lines = picture.lines; compression = 1 }

  pub structure_says : picture.columns < 65536 → picture.lines < 65536
      → structure_of (new_header header picture block data_bits) ≡ Some new_structure
  unfolding number_at
  structure_says columns lines =
      let c = big_number-reads_back 2 picture.columns (big_bytes 2 picture.lines ++ 1 ∷ []) columns in
      let l = big_number-reads_back 2 picture.lines (1 ∷ []) lines in
      ap (λ (n : ℕ). Some (structure_from picture.bits n (big_number 2 (big_bytes 2 picture.lines ++ 1 ∷ [])))) c
      ∙ ap (λ (n : ℕ). Some (structure_from picture.bits picture.columns n)) l

  -- what the lossless record says
  abbrev new_lossless : Lossless
  new_lossless = record { flags = 49; block = block; lines = 1 }

  pub lossless_says : lossless_of (new_header header picture block data_bits) ≡ Some new_lossless
  unfolding number_at
  lossless_says = refl

-- ---- the header of the new file

header_length_is : (header : Header) (picture : Picture) (block data_bits : ℕ) (rest : List ℕ)
    → records_size header < 2 ^ 32
    → header_length (new_records header picture block data_bits ++ rest) ≡ records_size header
unfolding number_at
header_length_is header picture block data_bits rest fits =
    big_number-reads_back 4 (records_size header) (drop 8 (new_records header picture block data_bits ++ rest)) fits

pub new_data_bits : (header : Header) (picture : Picture) (block bits : ℕ) → bits < 2 ^ 64
    → data_bits (new_header header picture block bits) ≡ bits
unfolding number_at
new_data_bits header picture block bits fits =
    big_number-reads_back 8 bits (drop 16 (new_records header picture block bits)) fits

first_length_is : (header : Header) (picture : Picture) (block data_bits : ℕ) (rest : List ℕ)
    → length_at 0 (new_records header picture block data_bits ++ rest) ≡ 16
unfolding number_at
first_length_is header picture block data_bits rest = refl

pub new_header_is : (header : Header) (picture : Picture) (block data_bits : ℕ) (rest : List ℕ)
    → AllStand header.bytes (others_of header.entries) → records_size header < 2 ^ 32
    → IsHeaderOf (new_records header picture block data_bits ++ rest) (new_header header picture block data_bits)
new_header_is header picture block data_bits rest stand fits =
    let bytes = new_records header picture block data_bits in
    let proper = bytes ++ rest in
    let size = new_size header picture block data_bits in
    let told = header_length_is header picture block data_bits rest fits in
    let whole = length-append bytes rest in
    let first = first_length_is header picture block data_bits rest in
    record {
      sound = past (ltb (length proper) 16) _ _ (lt-leb (suc (length proper)) 16 (omega (arith, size, whole)))
          (past (not (eqb (length_at 0 proper) 16)) _ _ (ap (λ (n : ℕ). not (eqb n 16)) first)
          (past (ltb (header_length proper) 16) _ _ (lt-leb (suc (header_length proper)) 16 (omega (arith, told)))
          (past (ltb (length proper) (header_length proper)) _ _
          (lt-leb (suc (length proper)) (header_length proper) (omega (arith, told, size, whole))) refl)));
      bytes = sym (ap (λ (n : ℕ). take n proper) (told ∙ sym size) ∙ take_at bytes rest (length bytes) refl);
      tiled = new_tiled header picture block data_bits stand;
    }

-- ---- its shape

size_is_right : (s : Structure) → 5 ≤ s.bits → IsSize 1 s → size_fault 5 s ≡ None
unfolding size_fault
size_is_right s deep is =
    no_more (ltb s.bits 5 || ltb 16 s.bits) _ _
    (both_false (ltb s.bits 5) (ltb 16 s.bits) (lt-leb (suc s.bits) 5 (omega arith))
    (lt-leb 17 s.bits (omega (arith, is.most_bits))))
    (no_more (eqb s.columns 0 || eqb s.lines 0) _ _
    (both_false (eqb s.columns 0) (eqb s.lines 0) (not_first s.columns is.columns) (not_first s.lines is.lines))
    (no_more (ltb most_pixels (s.columns * s.lines)) _ _
    (lt-leb 268435457 (s.columns * s.lines) (omega (arith, is.few)))
    refl))
  where
    no_more : (b : Bool) (fault : ImageFault) (rest : Option ImageFault) → b ≡ false → rest ≡ None
        → cond b (Some fault) rest ≡ None
    no_more b fault rest isnt none = ap (λ c. cond c (Some fault) rest) isnt ∙ none

    both_false : (a b : Bool) → a ≡ false → b ≡ false → (a || b) ≡ false
    both_false a b p q = ap (λ x. x || b) p ∙ q

coding_is_right : (block : ℕ) → IsBlockSize block
    → lossless_fault (record { flags = 49; block = block; lines = 1 }) ≡ None
unfolding lossless_fault
coding_is_right block is = elim is [
  | inl e ↦ by_block 8 block e refl
  | inr f ↦ elim f [
    | inl e ↦ by_block 16 block e refl
    | inr g ↦ elim g [ inl e ↦ by_block 32 block e refl | inr e ↦ by_block 64 block e refl ]
  ]
]
  where
    by_block : (n block : ℕ) → block ≡ n → lossless_fault (record { flags = 49; block = n; lines = 1 }) ≡ None
        → lossless_fault (record { flags = 49; block = block; lines = 1 }) ≡ None
    by_block n block same is =
        subst (λ (b : ℕ). lossless_fault (record { flags = 49; block = b; lines = 1 }) ≡ None) (sym same) is

abbrev pub new_shape : Picture → ℕ → Shape
new_shape picture block = record {
  structure = structure_from picture.bits picture.columns picture.lines;
  lossless = Some (record { flags = 49; block = block; lines = 1 });
}

pub shape_is : (header : Header) (picture : Picture) (block data_bits : ℕ)
    → AllStand header.bytes (others_of header.entries)
    → list_any (is_key header.bytes) (others_of header.entries) ≡ false
    → picture.columns < 65536 → picture.lines < 65536 → IsBlockSize block → 5 ≤ picture.bits
    → IsSize 1 (structure_from picture.bits picture.columns picture.lines)
    → shape_of (new_header header picture block data_bits) ≡ Ok (new_shape picture block)
shape_is header picture block data_bits stand none columns lines is_block deep size =
    let new = new_header header picture block data_bits in
    let s = structure_from picture.bits picture.columns picture.lines in
    let made : Shape = new_shape picture block in
    let coding : Lossless = record { flags = 49; block = block; lines = 1 } in
    ap (λ (o : Option Structure). structured_shape o new) (structure_says header picture block data_bits columns lines)
    ∙ ap (λ (b : Bool). cond b (Err Encrypted) (coded_shape s (lossless_of new)))
    (new_keys header picture block data_bits stand none)
    ∙ ap (λ (o : Option Lossless). coded_shape s o) (lossless_says header picture block data_bits)
    ∙ ap (λ (o : Option ImageFault). unless o (unless (lossless_fault coding) (Ok made))) (size_is_right s deep size)
    ∙ ap (λ (o : Option ImageFault). unless o (Ok made)) (coding_is_right block is_block)
