-- What a plan shows: the file, the layout of its image, and how many of its strips were given and kept.
use Rattle.std.specs.Prelude.{◌≡◌, ◌⊎◌, ◌+◌, ◌*◌, ℕ, Option, Some, None, List, All, length}
use mathlib.Core.Option.{some}
use lib.ListN.{get_elem?}
use Rattle.lr_bits.specs.File.{File}
use Rattle.lr_image.specs.declared.fault.ImageFault.{ImageFault}
use Rattle.lr_image.specs.declared.layout.Layout.{Layout}
use Rattle.lr_image.specs.Plain.{PixelsFail}
use Rattle.lr_image.specs.Images.{HasLayout, HasNoLayout, data_field}
use Rattle.lr_image.specs.Shapes.{IsShape}
use Rattle.lr_render.specs.Strips.{IsStrip}
use Rattle.lr_render.specs.Tiling.{strips_of}
use Rattle.lr_render.specs.declared.strip.StripSource.{StripSource}

pub record PlanView : Type 0 where
  pub file : File
  pub layout : Layout
  pub given : ℕ
  pub kept : ℕ

-- all strips of the plan's image
abbrev pub planned_strips : PlanView → List StripSource
planned_strips plan = strips_of plan.file plan.layout

-- the plan of this file's image, of which no strip was given
pub record IsNewPlan (file : File) (plan : PlanView) : Type 0 where
  pub file_is : plan.file ≡ file
  pub layout : HasLayout file plan.layout
  pub shape : IsShape plan.layout.shape
  pub strips : All IsStrip (planned_strips plan)
  pub none_given : plan.given ≡ 0
  pub none_kept : plan.kept ≡ 0

-- the pixels of an image that isn't compressed aren't all there
pub record LacksPlainPixels (file : File) (fault : ImageFault) : Type 0 where
  pub layout : Layout
  pub has_layout : HasLayout file layout
  pub plain : layout.shape.lossless ≡ None
  pub lacks : PixelsFail layout.shape.structure.bits
      (layout.shape.structure.columns * layout.shape.structure.lines) (data_field file layout.header_bytes) fault

-- why there is no plan: the header says of no image how it stands in the data field, or the image isn't compressed and
-- has too few pixels
abbrev pub HasNoPlan : File → ImageFault → Type 0
HasNoPlan file fault = HasNoLayout file fault ⊎ LacksPlainPixels file fault

-- the strip of this number is this one
abbrev pub IsStripAt : PlanView → ℕ → StripSource → Type 0
IsStripAt plan number strip = get_elem? (planned_strips plan) number ≡ some strip

-- what is given next: the strip after those that were given, or none, where all were
abbrev pub GivesNext : PlanView → PlanView → Option StripSource → Type 0
GivesNext old new (Some strip) = IsStripAt old old.given strip × (new ≡ record old { given = old.given + 1 })
GivesNext old new None = (length (planned_strips old) ≡ old.given) × (new ≡ old)
