-- What holds of the strips of all images.
use Rattle.std.specs.Prelude.{◌≡◌, ℕ, List, Option, Result, Ok, Err, All}
use Rattle.lr_bits.specs.File.{File}
use Rattle.lr_rice.specs.declared.fault.RiceFault.{RiceFault}
use Rattle.lr_image.specs.declared.fault.ImageFault.{ImageFault}
use Rattle.lr_image.specs.declared.layout.Layout.{Layout}
use Rattle.lr_image.specs.Images.{HasImageFault, HasPixels, LacksPixels}
use Rattle.lr_image.specs.Shapes.{IsShape}
use Rattle.lr_render.specs.Making.{StripsMake}
use Rattle.lr_render.specs.Plans.{HasNoPlan}
use Rattle.lr_render.specs.Strips.{IsDecodedStrip, IsStrip}
use Rattle.lr_render.specs.Tiling.{strips_of}
use Rattle.lr_render.specs.declared.strip.StripSource.{StripSource}

-- what comes of a strip follows from its source
abbrev pub StripsHaveOneOutcome : Type 0
StripsHaveOneOutcome =
    (strip : StripSource) (fault other : Option RiceFault) (pixels others : List ℕ) → IsStrip strip
    → IsDecodedStrip strip fault pixels → IsDecodedStrip strip other others → (fault ≡ other) × (pixels ≡ others)

-- the image of this layout has these pixels, or lacks some for this fault
abbrev pub HasPixelsOrFault : File → Layout → Result (List ℕ) ImageFault → Type 0
HasPixelsOrFault file layout (Ok pixels) =
    HasPixels file layout.header_bytes layout.shape.structure layout.shape.lossless pixels
HasPixelsOrFault file layout (Err fault) =
    LacksPixels file layout.header_bytes layout.shape.structure layout.shape.lossless fault

-- what all strips of an image make together is what the image has
abbrev pub StripsMakeTheImage : Type 0
StripsMakeTheImage =
    (file : File) (layout : Layout) (outcome : Result (List ℕ) ImageFault) → IsShape layout.shape
    → All IsStrip (strips_of file layout) → StripsMake layout.shape.structure 0 0 (strips_of file layout) outcome
    → HasPixelsOrFault file layout outcome

-- what a plan is refused for is the file's first fault
abbrev pub RefusalsAreFaults : Type 0
RefusalsAreFaults = (file : File) (fault : ImageFault) → HasNoPlan file fault → HasImageFault file fault
