-- What a shelf answered for an entry, by what the entry gives.
use Rattle.std.proofs.Common.{◌≡◌, ℕ, Option, Some, None, Result, Ok, Err, IfOk, IfErr, OnOk, ap, subst}
use Rattle.lr_disk.specs.declared.disk.Disk.{Ghosts as DiskOf}
use Rattle.lr_shelf_format.specs.Way.{Sound}
use Rattle.lr_shelf_format.specs.declared.stored.Stored.{Stored}
use Rattle.lr_shelf.specs.Asked.{entry_of}
use Rattle.lr_shelf.specs.Calls.{IsFaultCounted}
use Rattle.lr_shelf.specs.Kept.{kept_by, shelf_on}
use Rattle.lr_shelf.specs.Read.{Finds, Gets, IsGetRefusal}
use Rattle.lr_shelf.specs.declared.error.ShelfError.{ShelfError}
use Rattle.lr_shelf.specs.declared.error.ShelfError.TheVariants.{Discarded}
use Rattle.lr_shelf.specs.declared.shelf.Shelf.{Shelf}
use Rattle.lr_causes.specs.declared.cause.Cause.{Cause}
use Rattle.lr_refusals.specs.Errors.{IsFileOrGone, cause_of}

of_file : (got : Result Stored ShelfError) (file : Stored) → IsFileOrGone got (Ok (Some file)) → got ≡ Ok file
of_file (Ok other) file is = cc (is)
of_file (Err error) file is = absurd is

of_gone : (got : Result Stored ShelfError) → IsFileOrGone got (Ok None) → got ≡ Err Discarded
of_gone (Ok file) is = cc (is)
of_gone (Err error) is = ap Err is

module _ {D : Type 0} (disk : DiskOf D) (number : ℕ) (old new : Shelf) (d d' : D) (got : Result Stored ShelfError)
    (gets : Gets disk number (shelf_on old d) (shelf_on new d') got) where
  pub gives_file : (file : Stored) → IsFileOrGone got (Ok (Some file))
      → Finds disk (entry_of (kept_by old) number) d (Some (Sound file))
  gives_file file is =
      subst (λ (r : Result Stored ShelfError). IfOk r (λ s. Finds disk (entry_of (kept_by old) number) d
      (Some (Sound s)))) (of_file got file is) gets.stored

  pub gives_gone : IsFileOrGone got (Ok None) → IsGetRefusal disk (kept_by old) number d Discarded
  gives_gone is =
      subst (λ (r : Result Stored ShelfError). IfErr r (IsGetRefusal disk (kept_by old) number d)) (of_gone got is)
      gets.refused

  -- the cause is that of an error, and the entry isn't gone
  pub record Refuses (cause : Cause) : Type 0 where
    pub error : ShelfError
    pub stays : error ≡ Discarded → ⊥
    pub cause_is : cause ≡ cause_of error
    pub refused : IsGetRefusal disk (kept_by old) number d error
    pub counted : IsFaultCounted {A = Stored} (disk.faults d) (disk.faults d') (Err error)

  pub gives_cause : (cause : Cause) → IsFileOrGone got (Err cause) → Refuses cause
  gives_cause cause = of_cause got gets.refused gets.reads.calls.counted where
    of_cause : (r : Result Stored ShelfError) → IfErr r (IsGetRefusal disk (kept_by old) number d)
        → IsFaultCounted (disk.faults d) (disk.faults d') r → IsFileOrGone r (Err cause) → Refuses cause
    of_cause (Ok file) refused counted is = cc (is)
    of_cause (Err error) refused counted is = record {
      error = error;
      stays = is.0;
      cause_is = is.1;
      refused = refused;
      counted = counted;
    }

  -- where the entry is read, or gone, the disk didn't fail
  pub stays_counted : (given : Result (Option Stored) Cause) → IsFileOrGone got given
      → OnOk given (disk.faults d' ≡ disk.faults d)
  stays_counted given = by_answer got given gets.reads.calls.counted where
    by_answer : (r : Result Stored ShelfError) (given : Result (Option Stored) Cause)
        → IsFaultCounted (disk.faults d) (disk.faults d') r → IsFileOrGone r given
        → OnOk given (disk.faults d' ≡ disk.faults d)
    by_answer r (Err cause) counted is = tt
    by_answer (Ok file) (Ok given) counted is = counted
    by_answer (Err error) (Ok (Some given)) counted is = absurd is
    by_answer (Err error) (Ok None) counted is =
        subst (λ (e : ShelfError). IsFaultCounted {A = Stored} (disk.faults d) (disk.faults d') (Err e)) is counted
