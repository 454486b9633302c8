-- All strips of an image.
use Rattle.std.proofs.Common.{◌≡◌, ◌<◌, ◌≤◌, ◌+◌, ◌-◌, ◌*◌, ◌^◌, ℕ, List, [], length, All}
use Rattle.std.proofs.Common.{Option, Some, None, Result, Ok, Err, refl, subst, arith}
use Rattle.std.proofs.lemmas.List.Elements.{All-nil, All-weaker}
use Rattle.lr_bits.specs.Bits.{bits_of}
use Rattle.lr_bits.specs.File.{File, IsFile}
use Rattle.lr_bits.specs.Sizes.{most_body_bytes}
use Rattle.lr_headers.specs.declared.fields.Structure.{Structure}
use Rattle.lr_headers.specs.declared.fields.Lossless.{Lossless}
use Rattle.lr_image.specs.declared.fault.ImageFault.{ImageFault}
use Rattle.lr_image.specs.declared.layout.Layout.{Layout}
use Rattle.lr_image.specs.Plain.{BeginsWithPixels}
use Rattle.lr_image.specs.Images.{data_field, data_pieces}
use Rattle.lr_image.specs.Shapes.{IsShapeOf}
use Rattle.lr_render.specs.Giving.{HasEnough}
use Rattle.lr_render.specs.Laws.{HasPixelsOrFault, StripsMakeTheImage}
use Rattle.lr_render.specs.Making.{StripsMake}
use Rattle.lr_render.specs.Standing.{IsStripOf, all_lines}
use Rattle.lr_render.specs.Strips.{IsStrip}
use Rattle.lr_render.specs.Tiling.{plain_count, strips_after}
use Rattle.lr_render.proofs.Coded.{PiecesMake, coded-lines, coded_are, coded_make, pieces_short}
use Rattle.lr_render.proofs.Plain.{PlainMake, plain-lines, plain_are, plain_make}

-- no pixel
none_begin : (s : Structure) (field : List ℕ) → BeginsWithPixels s.bits (s.columns * 0) (bits_of field) []
none_begin s field = record {
  count = omega arith;
  small = All-nil (λ (p : ℕ). p < 2 ^ s.bits);
  rest = bits_of field;
  written = refl;
}

-- ---- what they make

from_plain : (file : File) (layout : Layout) (outcome : Result (List ℕ) ImageFault)
    → PlainMake layout.shape.structure (data_field file layout.header_bytes) [] outcome → layout.shape.lossless ≡ None
    → HasPixelsOrFault file layout outcome
from_plain file layout (Ok pixels) make none = rw none make
from_plain file layout (Err fault) make none = absurd make

from_coded : (file : File) (layout : Layout) (l : Lossless) (outcome : Result (List ℕ) ImageFault)
    → PiecesMake layout.shape.structure l 0 0 layout.shape.structure.lines (data_pieces file layout.header_bytes)
    outcome
    → layout.shape.lossless ≡ Some l → HasPixelsOrFault file layout outcome
from_coded file layout l (Ok pixels) make is = rw is make
from_coded file layout l (Err fault) make is = rw is make

made_by : (file : File) (layout : Layout) (outcome : Result (List ℕ) ImageFault) (lossless : Option Lossless)
    → layout.shape.lossless ≡ lossless
    → All IsStrip (strips_after layout.shape.structure lossless (data_field file layout.header_bytes) 0
    (data_pieces file layout.header_bytes))
    → StripsMake layout.shape.structure 0 0 (strips_after layout.shape.structure lossless
    (data_field file layout.header_bytes) 0 (data_pieces file layout.header_bytes)) outcome
    → HasPixelsOrFault file layout outcome
made_by file layout outcome None is are make =
    let s = layout.shape.structure in
    let field = data_field file layout.header_bytes in
    from_plain file layout outcome
    (plain_make s field [] (plain_count s (s.lines - 0)) 0 0 0 outcome refl (omega arith) (none_begin s field) are
    make) is
made_by file layout outcome (Some l) is are make =
    let s = layout.shape.structure in
    let pieces = data_pieces file layout.header_bytes in
    from_coded file layout l outcome
    (subst (λ (n : ℕ). PiecesMake s l 0 0 n pieces outcome) (omega arith)
    (coded_make s l 0 0 (s.lines - 0) pieces outcome (omega arith) make)) is

pub strips_make_the_image : StripsMakeTheImage
strips_make_the_image file layout outcome shape are make =
    made_by file layout outcome layout.shape.lossless refl are make

-- ---- what they are

pub strips_are : (file : File) (size : ℕ) (s : Structure) (lossless : Option Lossless) → IsFile file
    → IsShapeOf s lossless → s.columns ≤ 65535 → s.lines ≤ 65535 → length (data_field file size) < 2 ^ 32
    → HasEnough s lossless (data_field file size)
    → All (IsStripOf s) (strips_after s lossless (data_field file size) 0 (data_pieces file size))
strips_are file size s None is shape wide high small enough =
    plain_are s (data_field file size) (plain_count s (s.lines - 0)) 0 shape wide high small enough refl
strips_are file size s (Some l) is shape wide high small enough =
    coded_are s l (s.lines - 0) (data_pieces file size) shape.0 shape.1 wide (omega arith)
    (All-weaker (λ (p : List ℕ). length p ≤ most_body_bytes) (λ (p : List ℕ). length p < 2 ^ 61) (λ p h. omega arith)
    (data_pieces file size) (pieces_short most_body_bytes (10 + size) file.bodies is.short))

pub strips-lines : (s : Structure) (lossless : Option Lossless) (field : List ℕ) (pieces : List (List ℕ))
    → all_lines (strips_after s lossless field 0 pieces) ≤ s.lines
strips-lines s None field pieces = omega (arith, plain-lines s field (plain_count s (s.lines - 0)) 0 refl)
strips-lines s (Some l) field pieces = omega (arith, coded-lines s l (s.lines - 0) pieces)
