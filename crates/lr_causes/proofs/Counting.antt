-- Counts party by party.
use Rattle.std.proofs.Common.{◌≡◌, refl, ap}
use Rattle.lr_bits.specs.Faults.{Rose}
use Rattle.lr_causes.specs.declared.cause.Cause.{Cause}
use Rattle.lr_causes.specs.declared.cause.Cause.TheVariants.{Failed}
use Rattle.lr_causes.specs.declared.cause.Party.{Party}
use Rattle.lr_causes.specs.declared.cause.Party.TheVariants.{Source, Disk, Output}
use Rattle.lr_causes.specs.Causes.{FaultCounts, IsCaused, count_of_party}
use Rattle.lr_causes.specs.Counts.{CountsTell, NoneBesides}

module _ (Besides : Cause → Party → Type 0) (cause : Cause) (before now : FaultCounts) where
  -- this party's count stays, unless it is named or may have failed besides
  abbrev pub Stays : Party → Type 0
  Stays party = (cause ≡ Failed party → ⊥) → (Besides cause party → ⊥)
      → count_of_party party now ≡ count_of_party party before

  pub counts_tell : IsCaused cause before now → Stays Source → Stays Disk → Stays Output
      → CountsTell Besides cause before now
  counts_tell named source disk output = record { named = named; others = others } where
    others : (party : Party) → Stays party
    others Source = source
    others Disk = disk
    others Output = output

  -- none rose
  pub all_stay : IsCaused cause before now → now ≡ before → CountsTell Besides cause before now
  all_stay named same =
      record { named = named; others = λ party not none. ap (λ (c : FaultCounts). count_of_party party c) same }

-- one that is named rose, and the others stay
module _ (before now : FaultCounts) where
  pub disk_alone : Rose before.disk now.disk → now.source ≡ before.source → now.output ≡ before.output
      → CountsTell NoneBesides (Failed Disk) before now
  disk_alone rose source output =
      counts_tell NoneBesides (Failed Disk) before now rose (λ not none. source) (λ not none. absurd (not refl))
      (λ not none. output)

  pub out_alone : Rose before.output now.output → now.source ≡ before.source → now.disk ≡ before.disk
      → CountsTell NoneBesides (Failed Output) before now
  out_alone rose source disk =
      counts_tell NoneBesides (Failed Output) before now rose (λ not none. source) (λ not none. disk)
      (λ not none. absurd (not refl))
