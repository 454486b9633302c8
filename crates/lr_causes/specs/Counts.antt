-- Whose counts of faults rose in a call, for its cause.
use Rattle.std.specs.Prelude.{◌≡◌}
use Rattle.lr_causes.specs.declared.cause.Cause.{Cause}
use Rattle.lr_causes.specs.declared.cause.Cause.TheVariants.{Failed}
use Rattle.lr_causes.specs.declared.cause.Party.{Party}
use Rattle.lr_causes.specs.Causes.{FaultCounts, IsCaused, count_of_party}

-- The count of the party that a cause names rose, and of the others only those of parties that may have failed besides
-- it.
pub record CountsTell (MayFailBesides : Cause → Party → Type 0) (cause : Cause) (before now : FaultCounts)
    : Type 0 where
  pub named : IsCaused cause before now
  pub others : (party : Party) → (cause ≡ Failed party → ⊥) → (MayFailBesides cause party → ⊥)
      → count_of_party party now ≡ count_of_party party before

-- no party may
abbrev pub NoneBesides : Cause → Party → Type 0
NoneBesides cause party = ⊥
