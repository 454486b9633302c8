-- Which files have fillers.
use Rattle.std.specs.Prelude.{◌≡◌, ◌<◌, ℕ, List, Ok, All}
use Rattle.lr_bits.specs.File.{File, proper_of}
use Rattle.lr_headers.specs.Headers.{header_of}
use Rattle.lr_headers.specs.Tiling.{Header}
use Rattle.lr_image.specs.Shapes.{shape_of}
use Rattle.lr_image.specs.declared.shape.Shape.{Shape}
use Rattle.lr_mend.specs.MendedFiles.{mended_files}
use Rattle.lr_mend.specs.declared.marks.MarkedFile.{MarkedFile}
use Rattle.lr_packet.specs.Verdict.{Good}

-- the file has the header of an image that can be read
pub record IsOfImage (file : File) : Type 0 where
  pub header : Header
  pub is_header : header_of (proper_of file) ≡ Ok header
  pub shape : Shape
  pub is_shape : shape_of header ≡ Ok shape

-- A file with fillers has the header of an image that can be read.
abbrev pub OnlyImages : Type 0
OnlyImages = (most : ℕ) (packets : List Good) →
    All (λ (m : MarkedFile). 0 < m.fillers → IsOfImage m.file) (mended_files most packets)
