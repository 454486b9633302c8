-- How strips are given. No clause of a public call cites this.
use Rattle.std.specs.Prelude.{◌≡◌, ◌≤◌, ◌+◌, ◌*◌, ℕ, Option, Some, None, List, [], ◌∷◌, length}
use Rattle.lr_bits.specs.File.{File, IsFile, proper_of}
use Rattle.lr_headers.specs.declared.fields.Structure.{Structure}
use Rattle.lr_headers.specs.declared.fields.Lossless.{Lossless}
use Rattle.lr_image.specs.declared.layout.Layout.{Layout}
use Rattle.lr_image.specs.Places.{IsPlaceIn, pieces_at}
use Rattle.lr_image.specs.Images.{data_field}
use Rattle.lr_image.specs.Shapes.{IsShape}
use Rattle.lr_render.specs.Tiling.{line_start, strips_after}
use Rattle.lr_render.specs.declared.giving.Giving.{Giving}
use Rattle.lr_render.specs.declared.strip.StripSource.{StripSource}

-- an image that isn't compressed has all its pixels
abbrev pub HasEnough : Structure → Option Lossless → List ℕ → Type 0
HasEnough s None field = line_start s s.lines ≤ 8 * length field
HasEnough s (Some l) field = Unit {0}

-- strips can be cut out of the file
pub record CanBeCut (file : File) (layout : Layout) : Type 0 where
  pub is_file : IsFile file
  pub shape : IsShape layout.shape
  pub inside : layout.header_bytes ≤ length (proper_of file)
  pub enough : HasEnough layout.shape.structure layout.shape.lossless (data_field file layout.header_bytes)

-- no more lines were given than there are, and each strip has one at least
pub record GivesWithin (file : File) (s : Structure) (now : Giving) : Type 0 where
  pub lines : now.lines ≤ s.lines
  pub strips : now.strips ≤ now.lines
  pub place : IsPlaceIn file now.place

-- the strips that are to be given
abbrev pub strips_left : File → Layout → Giving → List StripSource
strips_left file layout now = strips_after layout.shape.structure layout.shape.lossless
    (data_field file layout.header_bytes) now.lines (pieces_at file now.place)

-- how far strips were given, and which were left to be given, before a call and after it
pub record GivingStep : Type 0 where
  pub old : Giving
  pub new : Giving
  pub before : List StripSource
  pub after : List StripSource

-- of the strips that were to be given the first one was, and the others are left
pub record GivesOne (file : File) (s : Structure) (step : GivingStep) (strip : StripSource) : Type 0 where
  pub first : step.before ≡ strip ∷ step.after
  pub count : step.new.strips ≡ step.old.strips + 1
  pub within : GivesWithin file s step.new

-- or there was none
abbrev pub GivesStrip : File → Structure → GivingStep → Option StripSource → Type 0
GivesStrip file s step (Some strip) = GivesOne file s step strip
GivesStrip file s step None = (step.before ≡ []) × (step.new ≡ step.old)
