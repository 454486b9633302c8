-- What `discard` does.
use Rattle.std.specs.Prelude.{◌≡◌, ◌<◌, ◌≤◌, ℕ, true, false, length, Result, Err, IfErr}
use Rattle.lr_disk.specs.declared.disk.Disk.{Ghosts as DiskOf}
use Rattle.lr_shelf_format.specs.Items.{discard_item}
use Rattle.lr_shelf.specs.Adds.{Adds, needed_by, new_end}
use Rattle.lr_shelf.specs.Asked.{IsAskable, IsEntryRefusal, entry_of}
use Rattle.lr_shelf.specs.Kept.{KeptShelf, ShelfOn, kept_on}
use Rattle.lr_shelf.specs.declared.error.ShelfError.{ShelfError}
use Rattle.lr_shelf.specs.declared.error.ShelfError.TheVariants.{Disk, Capacity, NoSuchFile, Failed, Discarded}

-- the refusals of `discard`, each with what it says of the shelf that it found
abbrev pub IsDiscardError : ℕ → KeptShelf → ShelfError → Type 0
IsDiscardError number kept (Capacity needed capacity) =
    IsAskable kept number × (kept.way.capacity < new_end (discard_item number) kept)
    × (needed ≡ needed_by (discard_item number) kept) × (capacity ≡ kept.way.capacity)
IsDiscardError number kept Disk = IsAskable kept number × (new_end (discard_item number) kept ≤ kept.way.capacity)
IsDiscardError number kept error = IsEntryRefusal kept number error

module _ {D : Type 0} (disk : DiskOf D) where
  pub record Discards (number : ℕ) (old new : ShelfOn D) (result : Result (Unit {0}) ShelfError) : Type 0 where
    pub adds : Adds disk (discard_item number) old new result
    -- the refusals, each exactly where it says, in their order
    pub refused : IfErr result (IsDiscardError number (kept_on old))
    pub spent : (kept_on old).failed ≡ true → result ≡ Err Failed
    pub absent : (kept_on old).failed ≡ false → length (kept_on old).way.entries ≤ number
        → result ≡ Err (NoSuchFile (length (kept_on old).way.entries))
    pub gone : (kept_on old).failed ≡ false → number < length (kept_on old).way.entries
        → (entry_of (kept_on old) number).gone ≡ true → result ≡ Err Discarded
    pub full : IsAskable (kept_on old) number → (kept_on old).way.capacity < new_end (discard_item number)
        (kept_on old)
        → result ≡ Err (Capacity (needed_by (discard_item number) (kept_on old)) (kept_on old).way.capacity)
