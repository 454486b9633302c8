-- Entries that a shelf is asked for by their number.
use Rattle.std.specs.Prelude.{◌≡◌, ◌<◌, ◌≤◌, ◌+◌, ℕ, true, false, length}
use Rattle.lr_bits.specs.Sizes.{most_u64}
use Rattle.lr_shelf_format.specs.Way.{entry_in}
use Rattle.lr_shelf_format.specs.declared.entry.Entry.{Entry}
use Rattle.lr_shelf.specs.Kept.{KeptShelf}
use Rattle.lr_shelf.specs.declared.error.ShelfError.{ShelfError}
use Rattle.lr_shelf.specs.declared.error.ShelfError.TheVariants.{NoSuchFile, Failed, Discarded}

-- the entry of this number
abbrev pub entry_of : KeptShelf → ℕ → Entry
entry_of kept number = entry_in kept.way.entries number

-- the shelf works, and has an entry of this number that isn't gone
pub record IsAskable (kept : KeptShelf) (number : ℕ) : Type 0 where
  pub working : kept.failed ≡ false
  pub there : number < length kept.way.entries
  pub stays : (entry_of kept number).gone ≡ false

-- the refusals that a shelf gives by itself to a call that names an entry
abbrev pub IsEntryRefusal : KeptShelf → ℕ → ShelfError → Type 0
IsEntryRefusal kept number Failed = kept.failed ≡ true
IsEntryRefusal kept number (NoSuchFile count) =
    (kept.failed ≡ false) × (count ≡ length kept.way.entries) × (count ≤ number)
IsEntryRefusal kept number Discarded =
    (kept.failed ≡ false) × (number < length kept.way.entries) × ((entry_of kept number).gone ≡ true)
IsEntryRefusal kept number error = ⊥

-- the entry of this number, whose item ends before the end of the shelf
pub record IsAsked (kept : KeptShelf) (number : ℕ) (entry : Entry) : Type 0 where
  pub askable : IsAskable kept number
  pub is : entry ≡ entry_of kept number
  pub low : entry.gate + 1 + entry.extent < most_u64
