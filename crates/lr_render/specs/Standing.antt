-- How far a plan has come: what its type keeps. No clause of a public call cites this.
use Rattle.std.specs.Prelude.{◌≡◌, ◌≤◌, ◌+◌, ℕ, Option, Some, None, List, [], ◌∷◌, ◌++◌, Result, Ok, Err}
use Rattle.std.specs.Prelude.{All, length, drop}
use Rattle.lr_bits.specs.File.{File}
use Rattle.lr_headers.specs.declared.fields.Structure.{Structure}
use Rattle.lr_image.specs.declared.fault.ImageFault.{ImageFault}
use Rattle.lr_image.specs.declared.layout.Layout.{Layout}
use Rattle.lr_image.specs.Images.{HasLayout}
use Rattle.lr_render.specs.Giving.{CanBeCut, GivesWithin, strips_left}
use Rattle.lr_render.specs.Making.{StripsMake}
use Rattle.lr_render.specs.Plans.{PlanView}
use Rattle.lr_render.specs.Strips.{IsStrip}
use Rattle.lr_render.specs.Tiling.{strips_of}
use Rattle.lr_render.specs.declared.giving.Giving.{Giving}
use Rattle.lr_render.specs.declared.keeping.Keeping.{Keeping}
use Rattle.lr_render.specs.declared.strip.StripSource.{StripSource}

abbrev pub plan_view : File → Layout → Giving → Keeping → PlanView
plan_view file layout giving keeping =
    record { file = file; layout = layout; given = giving.strips; kept = keeping.strips }

abbrev pub all_lines : List StripSource → ℕ
all_lines [] = 0
all_lines (strip ∷ strips) = strip.lines + all_lines strips

-- a strip of an image of this structure
pub record IsStripOf (s : Structure) (strip : StripSource) : Type 0 where
  pub is_strip : IsStrip strip
  pub columns : strip.columns ≡ s.columns
  pub some : 1 ≤ strip.lines

-- these pixels, and then what comes of the others
abbrev pub in_front : List ℕ → Result (List ℕ) ImageFault → Result (List ℕ) ImageFault
in_front front (Ok back) = Ok (front ++ back)
in_front front (Err fault) = Err fault

-- This many strips were kept, of this many lines and with these pixels. What the others make, all make with these
-- pixels in front.
pub record HasKept (s : Structure) (strips : List StripSource) (kept lines : ℕ) (pixels : List ℕ) : Type 0 where
  pub fits : lines + all_lines (drop kept strips) ≤ s.lines
  pub makes : (outcome : Result (List ℕ) ImageFault) → StripsMake s kept lines (drop kept strips) outcome
      → StripsMake s 0 0 strips (in_front pixels outcome)

-- or one of them had a fault, and then that is what all make
abbrev pub HasCome : Structure → List StripSource → Keeping → Option ImageFault → Type 0
HasCome s strips keeping None = HasKept s strips keeping.strips keeping.lines keeping.pixels
HasCome s strips keeping (Some fault) = StripsMake s 0 0 strips (Err fault)

pub record IsPlan (file : File) (layout : Layout) (giving : Giving) (keeping : Keeping) : Type 0 where
  pub has_layout : HasLayout file layout
  pub cut : CanBeCut file layout
  pub strips : All (IsStripOf layout.shape.structure) (strips_of file layout)
  pub within : GivesWithin file layout.shape.structure giving
  pub high : layout.shape.structure.lines ≤ 65535
  pub few_kept : keeping.strips ≤ giving.strips
  pub few_given : giving.strips ≤ length (strips_of file layout)
  pub to_come : drop giving.strips (strips_of file layout) ≡ strips_left file layout giving
  pub come : HasCome layout.shape.structure (strips_of file layout) keeping keeping.fault
