-- What every call of a shelf keeps of its disk.
use Rattle.std.specs.Prelude.{◌≡◌, ◌≤◌, ℕ, Result, Ok, Err}
use Rattle.lr_bits.specs.Faults.{Rose}
use Rattle.lr_bits.specs.Telling.{KeepsTelling}
use Rattle.lr_disk.specs.Disk.{KeepsImages}
use Rattle.lr_disk.specs.Reads.{IsOnlyRead}
use Rattle.lr_disk.specs.declared.disk.Disk.{Ghosts as DiskOf}
use Rattle.lr_shelf.specs.declared.error.ShelfError.{ShelfError}
use Rattle.lr_shelf.specs.declared.error.ShelfError.TheVariants.{Disk}

-- the disk's count of faults rose where the answer is `Disk`, and else it stays
abbrev pub IsFaultCounted : {A : Type 0} → ℕ → ℕ → Result A ShelfError → Type 0
IsFaultCounted before now (Ok answer) = now ≡ before
IsFaultCounted before now (Err Disk) = (before ≤ now) × Rose before now
IsFaultCounted before now (Err error) = now ≡ before

module _ {D : Type 0} (disk : DiskOf D) {A : Type 0} (d d' : D) (result : Result A ShelfError) where
  pub record Calls : Type 0 where
    pub tell : KeepsTelling (disk.tells d) (disk.tells d')
    pub counted : IsFaultCounted (disk.faults d) (disk.faults d') result

  -- a call that asks for the length or reads, and does nothing else
  pub record ReadsDisk : Type 0 where
    pub calls : Calls
    pub only_read : IsOnlyRead disk d d'
    pub images : disk.tells d → KeepsImages (disk.may_leave d) (disk.may_leave d')
