-- What `check` and `get` answer: by what stands, or doesn't stand, at an entry.
use Rattle.std.specs.Prelude.{◌≡◌, ◌≢◌, ℕ, slice_get, Option, Some, None, List, Result, IfOk, OnOk, IfErr}
use Rattle.lr_disk.specs.declared.disk.Disk.{Ghosts as DiskOf}
use Rattle.lr_shelf_format.specs.Items.{Item, item_of_stored}
use Rattle.lr_shelf_format.specs.ShelfBytes.{entries_of}
use Rattle.lr_shelf_format.specs.Way.{EntryState, Sound, Bad, HasSoundRecord, IsFound}
use Rattle.lr_shelf_format.specs.declared.entry.Entry.{Entry}
use Rattle.lr_shelf_format.specs.declared.stored.Stored.{Stored}
use Rattle.lr_shelf.specs.Asked.{IsAskable, IsEntryRefusal, entry_of}
use Rattle.lr_shelf.specs.Calls.{ReadsDisk}
use Rattle.lr_shelf.specs.Kept.{KeptShelf, ShelfOn, kept_on}
use Rattle.lr_shelf.specs.Shelf.{IsSettled}
use Rattle.lr_shelf.specs.declared.error.ShelfError.{ShelfError}
use Rattle.lr_shelf.specs.declared.error.ShelfError.TheVariants.{Disk, NotAShelf, NoSuchFile, Crc}
use Rattle.lr_shelf.specs.declared.error.ShelfError.TheVariants.{NoMemory, Failed, Discarded}

module _ {D : Type 0} (disk : DiskOf D) (entry : Entry) (d : D) where
  -- this stands at the entry, on a disk that tells its contents
  abbrev pub Finds : Option EntryState → Type 0
  Finds found = disk.tells d → IsFound (disk.contents d) entry found

  -- a file does
  abbrev pub FindsFile : Type 0
  FindsFile = (stored : Stored) × Finds (Some (Sound stored))

  -- a record with the right checksum does
  abbrev pub FindsSound : Type 0
  FindsSound = disk.tells d → HasSoundRecord (disk.contents d) entry

  -- the refusals of what reads an entry; want of memory comes last
  abbrev pub IsFindRefusal : ShelfError → Type 0
  IsFindRefusal Disk = Unit {0}
  IsFindRefusal (NotAShelf at) = (at ≡ entry.gate) × Finds None
  IsFindRefusal (Crc stored computed) = (stored ≢ computed) × Finds (Some (Bad stored computed))
  IsFindRefusal NoMemory = FindsSound
  IsFindRefusal error = ⊥

module _ {D : Type 0} (disk : DiskOf D) (kept : KeptShelf) (number : ℕ) (d : D) where
  -- the refusals of `get`: those of the shelf itself, and then those of the entry that it has
  abbrev pub IsGetRefusal : ShelfError → Type 0
  IsGetRefusal Failed = IsEntryRefusal kept number Failed
  IsGetRefusal (NoSuchFile count) = IsEntryRefusal kept number (NoSuchFile count)
  IsGetRefusal Discarded = IsEntryRefusal kept number Discarded
  IsGetRefusal error = IsAskable kept number × IsFindRefusal disk (entry_of kept number) d error

  -- those of `check`, which takes no memory
  abbrev pub IsCheckRefusal : ShelfError → Type 0
  IsCheckRefusal NoMemory = ⊥
  IsCheckRefusal error = IsGetRefusal error

module _ {D : Type 0} (disk : DiskOf D) where
  pub record Checks (number : ℕ) (old new : ShelfOn D) (result : Result (Unit {0}) ShelfError) : Type 0 where
    pub reads : ReadsDisk disk old.disk new.disk result
    pub kept : kept_on new ≡ kept_on old
    pub refused : IfErr result (IsCheckRefusal disk (kept_on old) number old.disk)
    pub askable : OnOk result (IsAskable (kept_on old) number)
    pub sound : OnOk result (FindsSound disk (entry_of (kept_on old) number) old.disk)
    -- `get` would answer this file, if memory is to be had
    pub file : OnOk result (FindsFile disk (entry_of (kept_on old) number) old.disk)

  pub record Gets (number : ℕ) (old new : ShelfOn D) (result : Result Stored ShelfError) : Type 0 where
    pub reads : ReadsDisk disk old.disk new.disk result
    pub kept : kept_on new ≡ kept_on old
    pub refused : IfErr result (IsGetRefusal disk (kept_on old) number old.disk)
    pub askable : OnOk result (IsAskable (kept_on old) number)
    pub stored : IfOk result (λ stored. Finds disk (entry_of (kept_on old) number) old.disk (Some (Sound stored)))
    -- over a shelf of these items
    pub settled : (capacity : ℕ) (items : List Item) → IsSettled disk capacity items old.shelf old.disk
        → IfOk result (λ stored. slice_get (entries_of items) number ≡ Some (item_of_stored stored))
