-- How strips are kept. No clause of a public call cites this.
use Rattle.std.specs.Prelude.{◌≡◌, ◌<◌, ◌+◌, ◌-◌, ◌^◌, ◌⊎◌, ℕ, Option, Some, None, List, ◌++◌}
use Rattle.lr_rice.specs.declared.fault.RiceFault.{RiceFault}
use Rattle.lr_image.specs.declared.fault.ImageFault.{ImageFault}
use Rattle.lr_image.specs.declared.fault.ImageFault.TheVariants.{Rice}
use Rattle.lr_render.specs.Strips.{FailsWith, GivesPixels}
use Rattle.lr_render.specs.declared.keeping.Keeping.{Keeping}
use Rattle.lr_render.specs.declared.strip.StripSource.{StripSource}

-- where no strip had a fault, the lines can be counted
abbrev pub HasFewLines : Keeping → StripSource → Option ImageFault → Type 0
HasFewLines now strip None = now.lines + strip.lines < 2 ^ 32
HasFewLines now strip (Some fault) = Unit {0}

pub record CanCount (now : Keeping) (strip : StripSource) : Type 0 where
  pub strips : now.strips < 2 ^ 32 - 1
  pub lines : HasFewLines now strip now.fault

-- the pixels of the strip came after those before
pub record TakesPixels (old new : Keeping) (strip : StripSource) : Type 0 where
  pub pixels : List ℕ
  pub gives : GivesPixels strip pixels
  pub lines : new.lines ≡ old.lines + strip.lines
  pub appended : new.pixels ≡ old.pixels ++ pixels
  pub fault : new.fault ≡ None

-- the strip has the first fault
pub record TakesFault (old new : Keeping) (strip : StripSource) : Type 0 where
  pub rice : RiceFault
  pub fails : FailsWith strip rice
  pub fault : new.fault ≡ Some (Rice old.strips rice)

-- after a fault nothing counts
abbrev pub TakesAfter : Keeping → Keeping → StripSource → Option ImageFault → Type 0
TakesAfter old new strip None = TakesPixels old new strip ⊎ TakesFault old new strip
TakesAfter old new strip (Some fault) = new.fault ≡ Some fault

-- the strip was taken
pub record TakesStrip (old new : Keeping) (strip : StripSource) : Type 0 where
  pub count : new.strips ≡ old.strips + 1
  pub after : TakesAfter old new strip old.fault
