-- What the header of an image has to say. The faults stand in their order.
use Rattle.std.specs.Prelude.{◌≡◌, ◌*◌, ◌/◌, ◌%◌, ◌==◌, ◌||◌, ◌≤◌, not, nat_lt, if◌then◌else◌, ℕ, Option, Some, None}
use Rattle.std.specs.Prelude.{Result, Ok, Err}
use Rattle.lr_headers.specs.declared.fields.Structure.{Structure}
use Rattle.lr_headers.specs.declared.fields.Lossless.{Lossless}
use Rattle.lr_headers.specs.Tiling.{Header}
use Rattle.lr_headers.specs.Fields.{file_type, is_encrypted, lossless_of, structure_of}
use Rattle.lr_image.specs.declared.fault.ImageFault.{ImageFault}
use Rattle.lr_image.specs.declared.fault.ImageFault.TheVariants.{NotImage, NoStructure, Encrypted, Compression, Depth}
use Rattle.lr_image.specs.declared.fault.ImageFault.TheVariants.{Empty, TooLarge, Flags, BlockSize, LinesPerPacket}
use Rattle.lr_image.specs.declared.shape.Shape.{Shape}

-- the most pixels of an image
abbrev pub most_pixels : ℕ
most_pixels = 268435456

-- the fault of depth and size, where a pixel has at least this many bits
unfoldable pub size_fault : ℕ → Structure → Option ImageFault
size_fault least s =
    if nat_lt s.bits least || nat_lt 16 s.bits then Some (Depth s.bits)
    else (if (s.columns == 0) || (s.lines == 0) then Some Empty
    else (if nat_lt most_pixels (s.columns * s.lines) then Some (TooLarge (s.columns * s.lines))
    else None))

-- the fault of a lossless record
unfoldable pub lossless_fault : Lossless → Option ImageFault
lossless_fault l =
    if l.flags / 32 % 2 == 0 then Some (Flags l.flags)
    else (if not (l.block % 2 == 0) || nat_lt l.block 2 || nat_lt 64 l.block then Some (BlockSize l.block)
    else (if l.lines == 0 then Some LinesPerPacket
    else None))

-- the first fault, if there is one
abbrev pub unless : Option ImageFault → Result Shape ImageFault → Result Shape ImageFault
unless (Some fault) shape = Err fault
unless None shape = shape

abbrev pub plain_shape : Structure → Result Shape ImageFault
plain_shape s = unless (size_fault 1 s) (Ok (record { structure = s; lossless = None }))

abbrev pub lossless_shape : Structure → Option Lossless → Result Shape ImageFault
lossless_shape s None = Err (Compression 1)
lossless_shape s (Some l) =
    unless (size_fault 5 s) (unless (lossless_fault l) (Ok (record { structure = s; lossless = Some l })))

abbrev pub coded_shape : Structure → Option Lossless → Result Shape ImageFault
coded_shape s lossless =
    if s.compression == 0 then plain_shape s
    else (if s.compression == 1 then lossless_shape s lossless
    else Err (Compression s.compression))

abbrev pub structured_shape : Option Structure → Header → Result Shape ImageFault
structured_shape None header = Err NoStructure
structured_shape (Some s) header = if is_encrypted header then Err Encrypted else coded_shape s (lossless_of header)

-- the shape of a header's image, or its first fault
abbrev pub shape_of : Header → Result Shape ImageFault
shape_of header =
    if not (file_type header == 0) then Err (NotImage (file_type header))
    else structured_shape (structure_of header) header

-- what holds of a shape without a fault
pub record IsSize (least : ℕ) (s : Structure) : Type 0 where
  pub least_bits : least ≤ s.bits
  pub most_bits : s.bits ≤ 16
  pub columns : 1 ≤ s.columns
  pub lines : 1 ≤ s.lines
  pub few : s.columns * s.lines ≤ most_pixels

pub record IsCoding (l : Lossless) : Type 0 where
  pub least_block : 2 ≤ l.block
  pub most_block : l.block ≤ 64
  pub even : l.block % 2 ≡ 0
  pub some : 1 ≤ l.lines

abbrev pub IsShapeOf : Structure → Option Lossless → Type 0
IsShapeOf s None = IsSize 1 s
IsShapeOf s (Some l) = IsSize 5 s × IsCoding l

abbrev pub IsShape : Shape → Type 0
IsShape shape = IsShapeOf shape.structure shape.lossless
