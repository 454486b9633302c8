-- The first event decides.
use Rattle.lr_causes.specs.declared.cause.Cause.{Cause}
use Rattle.lr_causes.specs.declared.cause.Cause.TheVariants.{Done}
use Rattle.lr_causes.specs.declared.cause.Party.{Party}
use Rattle.lr_causes.specs.declared.cause.Party.TheVariants.{Source}

-- Of the disk and `out`, the first one that fails decides. The source may have failed before a cause that doesn't name
-- it, since what was read is worked through; where the work is done, it hasn't.
abbrev pub SourceBesides : Cause → Party → Type 0
SourceBesides Done party = ⊥
SourceBesides cause Source = Unit {0}
SourceBesides cause party = ⊥
