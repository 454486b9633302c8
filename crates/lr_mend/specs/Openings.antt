-- Which bodies open an image that can be mended, and how many pixels of it are still to come.
use Rattle.std.specs.Prelude.{◌+◌, ◌-◌, ◌*◌, ◌/◌, min, Bool, is_some, if◌then◌else◌, ℕ, List, length, drop, Option}
use Rattle.std.specs.Prelude.{Some, None, Result, Ok, Err}
use Rattle.lr_bits.specs.declared.sizes.TheConstants.{TRANSPORT_HEADER_BYTES}
use Rattle.lr_headers.specs.declared.fault.HeaderFault.{HeaderFault}
use Rattle.lr_headers.specs.declared.fields.Structure.{Structure}
use Rattle.lr_headers.specs.declared.fields.Lossless.{Lossless}
use Rattle.lr_headers.specs.Headers.{header_of}
use Rattle.lr_headers.specs.Tiling.{Header}
use Rattle.lr_image.specs.declared.fault.ImageFault.{ImageFault}
use Rattle.lr_image.specs.declared.shape.Shape.{Shape}
use Rattle.lr_image.specs.Shapes.{shape_of}

-- of an image, whether its lines are coded packet by packet, and how much is still to come: coded packets, or else
-- bytes
pub record Opening : Type 0 where
  pub coded : Bool
  pub wanted : ℕ

-- how much a data field, or a body behind it, has: one coded packet, if any, or its bytes
abbrev pub units_in : Bool → List ℕ → ℕ
units_in coded rest = if coded then min 1 (length rest) else length rest

-- how much an image has: as many coded packets as its lines take, or the bytes of its pixels
abbrev pub units_of_image : Structure → Option Lossless → ℕ
units_of_image s None = (s.bits * (s.columns * s.lines) + 7) / 8
units_of_image s (Some l) = (s.lines + l.lines - 1) / l.lines

abbrev pub opening_from : Shape → List ℕ → Opening
opening_from shape rest =
    record {
      coded = is_some shape.lossless;
      wanted = units_of_image shape.structure shape.lossless - units_in (is_some shape.lossless) rest;
    }

-- the image that begins with this shape and this much of its data field
abbrev pub opening_by : Result Shape ImageFault → List ℕ → Option Opening
opening_by (Ok shape) rest = Some (opening_from shape rest)
opening_by (Err fault) rest = None

abbrev pub opening_in : List ℕ → Result Header HeaderFault → Option Opening
opening_in proper (Ok header) = opening_by (shape_of header) (drop (length header.bytes) proper)
opening_in proper (Err fault) = None

-- the image that a body opens: after the ten bytes of the transport header it has the whole header of an image whose
-- pixels can be read
unfoldable pub opening_of : List ℕ → Option Opening
opening_of body = opening_in (drop TRANSPORT_HEADER_BYTES body) (header_of (drop TRANSPORT_HEADER_BYTES body))
