-- Strips of images: what their pixels are read from, and which pixels these are.
use Rattle.std.specs.Prelude.{◌≡◌, ◌<◌, ◌≤◌, ◌+◌, ◌*◌, ◌%◌, ◌^◌, ℕ, Option, Some, None, List, length, drop, replicate}
use Rattle.lr_bits.specs.Bits.{bits_of}
use Rattle.lr_rice.specs.declared.fault.RiceFault.{RiceFault}
use Rattle.lr_rice.specs.CodedLines.{BeginsWithLines, form_of}
use Rattle.lr_rice.specs.LineFaults.{LinesFail}
use Rattle.lr_image.specs.Plain.{BeginsWithPixels}
use Rattle.lr_render.specs.declared.strip.Coding.{Coding}
use Rattle.lr_render.specs.declared.strip.Coding.TheVariants.{Plain, Coded}
use Rattle.lr_render.specs.declared.strip.StripSource.{StripSource}

-- Plain pixels are all there. Coded ones have 5 to 16 bits, and blocks of an even number of samples, 2 to 64.
abbrev pub FitsCoding : Coding → StripSource → Type 0
FitsCoding (Plain first_bit) strip =
    (first_bit < 8) × (1 ≤ strip.bits) × (strip.bits ≤ 16)
    × (first_bit + strip.bits * (strip.columns * strip.lines) ≤ 8 * length strip.bytes)
FitsCoding (Coded block) strip =
    (5 ≤ strip.bits) × (strip.bits ≤ 16) × (2 ≤ block) × (block ≤ 64) × (block % 2 ≡ 0)

-- what holds of each strip
pub record IsStrip (strip : StripSource) : Type 0 where
  pub short : length strip.bytes < 2 ^ 61
  pub some : 1 ≤ strip.columns
  pub wide : strip.columns ≤ 65535
  pub few : strip.lines ≤ 65535
  pub fits : FitsCoding strip.coding strip

-- the strip has these pixels
abbrev pub GivesBy : Coding → StripSource → List ℕ → Type 0
GivesBy (Plain first_bit) strip pixels =
    BeginsWithPixels strip.bits (strip.columns * strip.lines) (drop first_bit (bits_of strip.bytes)) pixels
GivesBy (Coded block) strip pixels =
    BeginsWithLines (form_of strip.bits block strip.columns) strip.lines pixels (bits_of strip.bytes)

abbrev pub GivesPixels : StripSource → List ℕ → Type 0
GivesPixels strip pixels = GivesBy strip.coding strip pixels

-- its lines can't be decoded, for this fault
abbrev pub FailsBy : Coding → StripSource → RiceFault → Type 0
FailsBy (Plain first_bit) strip fault = ⊥
FailsBy (Coded block) strip fault =
    LinesFail (form_of strip.bits block strip.columns) strip.lines (bits_of strip.bytes) fault

abbrev pub FailsWith : StripSource → RiceFault → Type 0
FailsWith strip fault = FailsBy strip.coding strip fault

-- what comes of the strip: its pixels, or a fault, and then each pixel is 0
abbrev pub IsDecodedStrip : StripSource → Option RiceFault → List ℕ → Type 0
IsDecodedStrip strip None pixels = GivesPixels strip pixels
IsDecodedStrip strip (Some fault) pixels =
    FailsWith strip fault × (pixels ≡ replicate (strip.columns * strip.lines) 0)
