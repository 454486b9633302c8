-- Bytes have one reading, and so at most one flaw; and what is taken of a source, by how its bytes are read.
use Rattle.std.proofs.Common.{◌≡◌, ◌<◌, ◌≤◌, ℕ, List, length, Result, Ok, Err, IfOk, IfErr, refl, sym, ◌∙◌, ap, arith}
use Rattle.std.proofs.Common.{inl, inr, subst}
use Rattle.lr_causes.specs.declared.cause.Cause.{Cause}
use Rattle.lr_causes.specs.declared.cause.Cause.TheVariants.{Failed, Refused}
use Rattle.lr_causes.specs.declared.cause.Party.TheVariants.{Source}
use Rattle.lr_causes.specs.declared.cause.Refusal.TheVariants.{BadBundle}
use Rattle.lr_causes.specs.declared.fault.BundleFlaw.{BundleFlaw}
use Rattle.lr_causes.specs.declared.fault.BundleFlaw.TheVariants.{Ended, Count, Rest, TooLong}
use Rattle.lr_downlinks.specs.Bundles.{IsBundle, IsReading}
use Rattle.lr_downlinks.specs.declared.fault.BundleFault.{BundleFault}
use Rattle.lr_downlinks.specs.declared.fault.BundleFault.TheVariants.{Ended as EndedAt}
use Rattle.lr_downlinks.specs.declared.fault.BundleFault.TheVariants.{Count as CountIs}
use Rattle.lr_downlinks.specs.declared.fault.BundleFault.TheVariants.{Rest as RestAt}
use Rattle.lr_downlinks.specs.declared.sizes.TheConstants.{MOST_BUNDLE_BYTES}
use Rattle.lr_forms.specs.declared.forms.Stop.{Stop}
use Rattle.lr_forms.specs.declared.forms.Stop.TheVariants.{End, Limit, Fault}
use Rattle.lr_io.specs.declared.source.Source.{Ghosts as SourceOf}
use Rattle.lr_cmd_downlinks.specs.Taking.{HasFlaw, TakesBundle, TakesBytes, TakesNone, bundle_by, flaw_of, most_taken}
use Rattle.lr_cmd_downlinks.specs.Taking.{unless_stopped}

module _ (bytes : List ℕ) (result : Result (List (List ℕ)) BundleFault)
    (only : (reading : Result (List (List ℕ)) BundleFault) → IsReading bytes reading → result ≡ reading)
    (short : length bytes < most_taken) where
  pub no_flaw : (streams : List (List ℕ)) → result ≡ Ok streams → (flaw : BundleFlaw) → HasFlaw bytes flaw → ⊥
  no_flaw streams is (Ended at) has =
      let same : Ok streams ≡ Err has.1.0 = sym is ∙ only (Err has.1.0) has.1.1 in cc (same)
  no_flaw streams is (Count count) has =
      let same : Ok streams ≡ Err has.1.0 = sym is ∙ only (Err has.1.0) has.1.1 in cc (same)
  no_flaw streams is (Rest at) has =
      let same : Ok streams ≡ Err has.1.0 = sym is ∙ only (Err has.1.0) has.1.1 in cc (same)
  no_flaw streams is TooLong has = omega (arith, short, has)

  pub one_bundle : (streams others : List (List ℕ)) → result ≡ Ok streams → IsBundle bytes others → others ≡ streams
  one_bundle streams others is bundle =
      let same : Ok streams ≡ Ok others = sym is ∙ only (Ok others) bundle in cc (same)

  module _ (fault : BundleFault) (is : result ≡ Err fault) where
    same_fault : (other : BundleFault) → IsReading bytes (Err other) → flaw_of other ≡ flaw_of fault
    same_fault other reading =
        let same : Err fault ≡ Err other = sym is ∙ only (Err other) reading in
        let one : other ≡ fault = cc (same) in ap flaw_of one

    pub one_flaw : (other : BundleFlaw) → HasFlaw bytes other → other ≡ flaw_of fault
    one_flaw (Ended at) has = has.1.2 ∙ same_fault has.1.0 has.1.1
    one_flaw (Count count) has = has.1.2 ∙ same_fault has.1.0 has.1.1
    one_flaw (Rest at) has = has.1.2 ∙ same_fault has.1.0 has.1.1
    one_flaw TooLong has = absurd (omega (arith, short, has))

    pub no_bundle : (others : List (List ℕ)) → IsBundle bytes others → ⊥
    no_bundle others bundle = let same : Err fault ≡ Ok others = sym is ∙ only (Ok others) bundle in cc (same)

-- the flaw of a fault
pub has_flaw : (bytes : List ℕ) → length bytes ≤ MOST_BUNDLE_BYTES → (fault : BundleFault)
    → IsReading bytes (Err fault) → HasFlaw bytes (flaw_of fault)
has_flaw bytes few (EndedAt at) reading = (few, (EndedAt at, reading, refl))
has_flaw bytes few (CountIs count) reading = (few, (CountIs count, reading, refl))
has_flaw bytes few (RestAt at) reading = (few, (RestAt at, reading, refl))

-- ---- what was taken

pub ended : (stop : Stop) (nothing : Unit {0}) → unless_stopped stop ≡ Ok nothing → stop ≡ End
ended End nothing is = refl
ended Limit nothing is = cc (is)
ended Fault nothing is = cc (is)

-- as many bytes as are taken at most have no flaw but that
long_flaw : (bytes : List ℕ) → length bytes ≡ most_taken → (flaw : BundleFlaw) → HasFlaw bytes flaw → flaw ≡ TooLong
long_flaw bytes long (Ended at) has = absurd (omega (arith, long, has.0))
long_flaw bytes long (Count count) has = absurd (omega (arith, long, has.0))
long_flaw bytes long (Rest at) has = absurd (omega (arith, long, has.0))
long_flaw bytes long TooLong has = refl

module _ {S : Type 0} (source : SourceOf S) (bytes : List ℕ) (s s' : S) where
  pub stopped : (stop : Stop) (cause : Cause) → unless_stopped stop ≡ Err cause → TakesBytes source bytes stop s s'
      → TakesNone source cause s s'
  stopped End cause is taken = cc (is)
  stopped Fault cause is taken =
      let same : Failed Source ≡ cause = cc (is) in
      subst (λ (c : Cause). TakesNone source c s s') same
      (record { bytes = bytes; read = taken.read; stops = taken.reason })
  stopped Limit cause is taken =
      let same : Refused (BadBundle TooLong) ≡ cause = cc (is) in
      let long : length bytes ≡ most_taken = taken.reason.0 in
      subst (λ (c : Cause). TakesNone source c s s') same
      (record {
        bytes = bytes;
        read = taken.read;
        stops = (
          long,
          inr taken.reason,
          long_flaw bytes long,
          (λ streams bundle few. absurd (omega (arith, long, few))),
        );
      })

  module _ (taken : TakesBytes source bytes End s s') (result : Result (List (List ℕ)) BundleFault)
      (reading : IsReading bytes result)
      (only : (other : Result (List (List ℕ)) BundleFault) → IsReading bytes other → result ≡ other) where
    pub takes_bundle : IfOk (bundle_by result) (λ streams. TakesBundle source streams s s')
    takes_bundle = by_reading result refl reading where
      by_reading : (r : Result (List (List ℕ)) BundleFault) → result ≡ r → IsReading bytes r
          → IfOk (bundle_by r) (λ streams. TakesBundle source streams s s')
      by_reading (Err fault) is read = tt
      by_reading (Ok streams) is read = record {
        bytes = bytes;
        taken = taken;
        bundle = read;
        only = λ others bundle. one_bundle bytes result only taken.reason.0 streams others is bundle;
        sound = λ flaw has. no_flaw bytes result only taken.reason.0 streams is flaw has;
      }

    pub takes_none : IfErr (bundle_by result) (λ cause. TakesNone source cause s s')
    takes_none = by_reading result refl reading where
      by_reading : (r : Result (List (List ℕ)) BundleFault) → result ≡ r → IsReading bytes r
          → IfErr (bundle_by r) (λ cause. TakesNone source cause s s')
      by_reading (Ok streams) is read = tt
      by_reading (Err fault) is read = record {
        bytes = bytes;
        read = taken.read;
        stops = (
          has_flaw bytes (omega (arith, taken.reason.0)) fault read,
          inl taken.reason,
          (λ other has. one_flaw bytes result only taken.reason.0 fault is other has),
          (λ streams bundle few. no_bundle bytes result only taken.reason.0 fault is streams bundle),
        );
      }
