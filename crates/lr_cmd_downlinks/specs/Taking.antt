-- What the bytes of a source are read as: the bundle of these streams, or the flaw for which they are none.
use Rattle.std.specs.Prelude.{◌≡◌, ◌⊎◌, ◌<◌, ◌≤◌, ℕ, List, length, Result, Ok, Err, ◌+◌}
use Rattle.lr_causes.specs.declared.cause.Cause.{Cause}
use Rattle.lr_causes.specs.declared.cause.Cause.TheVariants.{Failed, NoMemory, Refused}
use Rattle.lr_causes.specs.declared.cause.Party.TheVariants.{Source}
use Rattle.lr_causes.specs.declared.cause.Refusal.TheVariants.{BadBundle}
use Rattle.lr_causes.specs.declared.fault.BundleFlaw.{BundleFlaw}
use Rattle.lr_causes.specs.declared.fault.BundleFlaw.TheVariants.{Ended, Count, Rest, TooLong}
use Rattle.lr_downlinks.specs.Bundles.{IsBundle, IsReading}
use Rattle.lr_downlinks.specs.declared.fault.BundleFault.{BundleFault}
use Rattle.lr_downlinks.specs.declared.fault.BundleFault.TheVariants.{Ended as EndedAt}
use Rattle.lr_downlinks.specs.declared.fault.BundleFault.TheVariants.{Count as CountIs}
use Rattle.lr_downlinks.specs.declared.fault.BundleFault.TheVariants.{Rest as RestAt}
use Rattle.lr_downlinks.specs.declared.sizes.TheConstants.{MOST_BUNDLE_BYTES}
use Rattle.lr_forms.specs.declared.forms.Stop.{Stop}
use Rattle.lr_forms.specs.declared.forms.Stop.TheVariants.{End, Limit, Fault}
use Rattle.lr_io.specs.declared.source.Source.{Ghosts as SourceOf}
use Rattle.lr_reading.specs.Reading.{IsRead, EndsFor}

-- the most bytes that are taken: one more than a bundle can have
abbrev pub most_taken : ℕ
most_taken = MOST_BUNDLE_BYTES + 1

abbrev pub flaw_of : BundleFault → BundleFlaw
flaw_of (EndedAt at) = Ended at
flaw_of (CountIs count) = Count count
flaw_of (RestAt at) = Rest at

-- why no bundle is read of the bytes that were taken, if the source didn't end after them
abbrev pub unless_stopped : Stop → Result (Unit {0}) Cause
unless_stopped End = Ok tt
unless_stopped Limit = Err (Refused (BadBundle TooLong))
unless_stopped Fault = Err (Failed Source)

-- a bundle by how its bytes are read
abbrev pub bundle_by : Result (List (List ℕ)) BundleFault → Result (List (List ℕ)) Cause
bundle_by (Ok streams) = Ok streams
bundle_by (Err fault) = Err (Refused (BadBundle (flaw_of fault)))

-- bytes that are more than a bundle has at most are too long, whatever else is wrong
abbrev pub HasFlaw : List ℕ → BundleFlaw → Type 0
HasFlaw bytes TooLong = length bytes ≡ most_taken
HasFlaw bytes flaw =
    (length bytes ≤ MOST_BUNDLE_BYTES) × ((fault : BundleFault) × IsReading bytes (Err fault) × (flaw ≡ flaw_of fault))

module _ {S : Type 0} (source : SourceOf S) where
  -- all bytes of the source were taken, or as many as are taken at most
  abbrev pub AreAllTaken : List ℕ → S → S → Type 0
  AreAllTaken bytes s s' = EndsFor source End most_taken bytes s s'
      ⊎ EndsFor source Limit most_taken bytes s s'

  -- these bytes were taken, and no more of them for this reason
  pub record TakesBytes (bytes : List ℕ) (stop : Stop) (s s' : S) : Type 0 where
    pub read : IsRead source most_taken bytes s s'
    pub reason : EndsFor source stop most_taken bytes s s'

  -- memory was refused while bytes were taken
  pub record TakingWantsMemory (s s' : S) : Type 0 where
    pub bytes : List ℕ
    pub read : IsRead source most_taken bytes s s'
    pub count : source.faults s' ≡ source.faults s

  -- the bundle of these streams was taken, and the bytes have no flaw
  pub record TakesBundle (streams : List (List ℕ)) (s s' : S) : Type 0 where
    pub bytes : List ℕ
    pub taken : TakesBytes bytes End s s'
    pub bundle : IsBundle bytes streams
    pub only : (others : List (List ℕ)) → IsBundle bytes others → others ≡ streams
    pub sound : (flaw : BundleFlaw) → HasFlaw bytes flaw → ⊥

  -- no bundle was taken, for this cause
  abbrev pub StopsTaking : Cause → List ℕ → S → S → Type 0
  StopsTaking (Failed Source) bytes s s' = EndsFor source Fault most_taken bytes s s'
  StopsTaking NoMemory bytes s s' = source.faults s' ≡ source.faults s
  StopsTaking (Refused (BadBundle flaw)) bytes s s' = HasFlaw bytes flaw × AreAllTaken bytes s s'
      × ((other : BundleFlaw) → HasFlaw bytes other → other ≡ flaw)
      × ((streams : List (List ℕ)) → IsBundle bytes streams → length bytes < most_taken → ⊥)
  StopsTaking cause bytes s s' = ⊥

  pub record TakesNone (cause : Cause) (s s' : S) : Type 0 where
    pub bytes : List ℕ
    pub read : IsRead source most_taken bytes s s'
    pub stops : StopsTaking cause bytes s s'
