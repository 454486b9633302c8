-- What strips make together: the pixels of an image, or its fault.
use Rattle.std.specs.Prelude.{◌≡◌, ◌<◌, ◌≤◌, ◌⊎◌, ◌+◌, ◌*◌, ℕ, List, [], ◌∷◌, ◌++◌, Result, Ok, Err}
use Rattle.lr_headers.specs.declared.fields.Structure.{Structure}
use Rattle.lr_rice.specs.declared.fault.RiceFault.{RiceFault}
use Rattle.lr_image.specs.declared.fault.ImageFault.{ImageFault}
use Rattle.lr_image.specs.declared.fault.ImageFault.TheVariants.{Rice, Short}
use Rattle.lr_render.specs.Strips.{FailsWith, GivesPixels}
use Rattle.lr_render.specs.declared.strip.StripSource.{StripSource}

-- the strip has the first of the pixels, and the others have the rest
pub record StripThen (strip : StripSource) (Others : List ℕ → Type 0) (pixels : List ℕ) : Type 0 where
  pub front : List ℕ
  pub gives : GivesPixels strip front
  pub back : List ℕ
  pub others : Others back
  pub are_pixels : pixels ≡ front ++ back

-- the strip of this number fails
pub record StripFails (number : ℕ) (strip : StripSource) (fault : ImageFault) : Type 0 where
  pub rice : RiceFault
  pub fails : FailsWith strip rice
  pub is_fault : fault ≡ Rice number rice

-- the strip has pixels, and one after it fails, or lines are missing
pub record StripBefore (strip : StripSource) (Fault : Type 0) : Type 0 where
  pub front : List ℕ
  pub gives : GivesPixels strip front
  pub later : Fault

-- What these strips make of an image, where `number` strips and `done` lines come before them: the pixels of the other
-- lines, or the fault of the first strip that has one, or else that lines are missing.
abbrev pub StripsMake : Structure → (number done : ℕ) → List StripSource → Result (List ℕ) ImageFault → Type 0
StripsMake s number done [] (Ok pixels) = (s.lines ≤ done) × (pixels ≡ [])
StripsMake s number done [] (Err fault) = (done < s.lines) × (fault ≡ Short (done * s.columns))
StripsMake s number done (strip ∷ strips) (Ok pixels) =
    StripThen strip (λ back. StripsMake s (number + 1) (done + strip.lines) strips (Ok back)) pixels
StripsMake s number done (strip ∷ strips) (Err fault) =
    StripFails number strip fault
    ⊎ StripBefore strip (StripsMake s (number + 1) (done + strip.lines) strips (Err fault))
