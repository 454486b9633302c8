-- What the comparison of an entry's checksum finds. No clause of a public call cites this.
use Rattle.std.specs.Prelude.{◌≡◌, ℕ, Result, Ok, Err}
use Rattle.lr_shelf.specs.declared.error.ShelfError.{ShelfError}
use Rattle.lr_shelf.specs.declared.error.ShelfError.TheVariants.{Crc, Discarded}
use Rattle.lr_causes.specs.declared.cause.Cause.{Cause}
use Rattle.lr_refusals.specs.Errors.{cause_of}
use Rattle.lr_cmd_shelf.specs.declared.verify.Finding.{Finding}
use Rattle.lr_cmd_shelf.specs.declared.verify.Finding.TheVariants.{Right, Wrong, Gone}

-- by what a shelf answers for it: the checksums are equal, or differ, or the file is gone; or the error's cause
abbrev pub IsCompared : Result (Unit {0}) ShelfError → Result Finding Cause → Type 0
IsCompared (Ok nothing) found = found ≡ Ok Right
IsCompared (Err error) (Ok Right) = ⊥
IsCompared (Err error) (Ok (Wrong stored computed)) = error ≡ Crc stored computed
IsCompared (Err error) (Ok Gone) = error ≡ Discarded
IsCompared (Err error) (Err cause) = (cause ≡ cause_of error)
    × ((stored computed : ℕ) → error ≡ Crc stored computed → ⊥) × (error ≡ Discarded → ⊥)
