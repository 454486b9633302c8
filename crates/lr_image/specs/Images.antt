-- Which image a mission file has, and which fault where it has none.
use Rattle.std.specs.Prelude.{◌≡◌, ◌⊎◌, ◌+◌, ◌*◌, ℕ, List, length, drop, Option, Some, None, Result, Ok, Err}
use Rattle.lr_bits.specs.Bits.{bits_of}
use Rattle.lr_bits.specs.File.{File, proper_of}
use Rattle.lr_bits.specs.declared.sizes.TheConstants.{TRANSPORT_HEADER_BYTES}
use Rattle.lr_headers.specs.declared.fault.HeaderFault.{HeaderFault}
use Rattle.lr_headers.specs.declared.fields.Structure.{Structure}
use Rattle.lr_headers.specs.declared.fields.Lossless.{Lossless}
use Rattle.lr_headers.specs.Tiling.{Header, HasHeaderFault, IsHeaderOf}
use Rattle.lr_rice.specs.CodedLines.{Form, form_of}
use Rattle.lr_image.specs.declared.fault.ImageFault.{ImageFault}
use Rattle.lr_image.specs.declared.fault.ImageFault.TheVariants.{Headers, NoMemory}
use Rattle.lr_image.specs.declared.layout.Layout.{Layout}
use Rattle.lr_image.specs.Picture.{Picture}
use Rattle.lr_image.specs.Pieces.{GiveLines, LackLines, pieces_after}
use Rattle.lr_image.specs.Plain.{BeginsWithPixels, PixelsFail}
use Rattle.lr_image.specs.Shapes.{shape_of}

-- ---- pixels

-- how the lines are coded
abbrev pub line_form : Structure → Lossless → Form
line_form s l = form_of s.bits l.block s.columns

-- the data field: what stands after a header of this many bytes
abbrev pub data_field : File → ℕ → List ℕ
data_field file size = drop size (proper_of file)

-- the pieces of the data field, which comes after the ten bytes of the transport header and the header
abbrev pub data_pieces : File → ℕ → List (List ℕ)
data_pieces file size = pieces_after (TRANSPORT_HEADER_BYTES + size) file.bodies

abbrev pub HasPixels : File → ℕ → Structure → Option Lossless → List ℕ → Type 0
HasPixels file size s None pixels =
    BeginsWithPixels s.bits (s.columns * s.lines) (bits_of (data_field file size)) pixels
HasPixels file size s (Some l) pixels = GiveLines (line_form s l) l.lines s.lines (data_pieces file size) pixels

abbrev pub LacksPixels : File → ℕ → Structure → Option Lossless → ImageFault → Type 0
LacksPixels file size s None fault = PixelsFail s.bits (s.columns * s.lines) (data_field file size) fault
LacksPixels file size s (Some l) fault = LackLines (line_form s l) l.lines s.lines (data_pieces file size) fault

-- ---- images

-- the header of the file says that the image has this shape, and the data field comes after this many bytes of it
pub record HasLayout (file : File) (layout : Layout) : Type 0 where
  pub header : Header
  pub is_header : IsHeaderOf (proper_of file) header
  pub is_size : layout.header_bytes ≡ length header.bytes
  pub is_shape : shape_of header ≡ Ok layout.shape

-- the file has this image
pub record IsImageOf (file : File) (picture : Picture) : Type 0 where
  pub layout : Layout
  pub has_layout : HasLayout file layout
  pub bits : picture.bits ≡ layout.shape.structure.bits
  pub columns : picture.columns ≡ layout.shape.structure.columns
  pub lines : picture.lines ≡ layout.shape.structure.lines
  pub pixels : HasPixels file layout.header_bytes layout.shape.structure layout.shape.lossless picture.pixels

-- there is no header
pub record HasNoHeader (file : File) (fault : ImageFault) : Type 0 where
  pub cause : HeaderFault
  pub fails : HasHeaderFault (proper_of file) cause
  pub is_fault : fault ≡ Headers cause

-- the header says of no image how it stands in the data field
pub record HasNoShape (file : File) (fault : ImageFault) : Type 0 where
  pub header : Header
  pub is_header : IsHeaderOf (proper_of file) header
  pub fails : shape_of header ≡ Err fault

-- the header can't be read, or isn't one of an image
abbrev pub HasNoLayout : File → ImageFault → Type 0
HasNoLayout file fault = HasNoHeader file fault ⊎ HasNoShape file fault

-- the data field doesn't have all pixels of the image
pub record HasNoPixels (file : File) (fault : ImageFault) : Type 0 where
  pub layout : Layout
  pub has_layout : HasLayout file layout
  pub lacks : LacksPixels file layout.header_bytes layout.shape.structure layout.shape.lossless fault

-- the file has no image, and this is its first fault
abbrev pub HasImageFault : File → ImageFault → Type 0
HasImageFault file fault = HasNoLayout file fault ⊎ HasNoPixels file fault

-- what the file has: an image, or a first fault
abbrev pub HasOutcome : File → Result Picture ImageFault → Type 0
HasOutcome file (Ok picture) = IsImageOf file picture
HasOutcome file (Err fault) = HasImageFault file fault

-- its first fault, or want of memory, which may come at any time
abbrev pub HasImageFaultOrMemory : File → ImageFault → Type 0
HasImageFaultOrMemory file fault = (fault ≡ NoMemory) ⊎ HasImageFault file fault
