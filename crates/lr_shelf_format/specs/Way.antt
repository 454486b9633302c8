-- The way through the bytes of a shelf, as a list of entries, and what stands at each of them, whatever the other items
-- hold.
use Rattle.std.specs.Prelude.{◌≡◌, ◌≢◌, ◌⊎◌, ◌≤◌, ◌<◌, ◌+◌, ◌-◌, ℕ, zero, suc, true, false}
use Rattle.std.specs.Prelude.{Option, Some, None, List, [], ◌∷◌, ◌++◌, length, take, drop, slice_index_or, All}
use Rattle.lr_shelf_format.specs.Header.{HasHeader, first_gate}
use Rattle.lr_shelf_format.specs.Items.{Holds, IsFileRecord, Item, computed_checksum, extent_of, stored_checksum}
use Rattle.lr_shelf_format.specs.ShelfBytes.{StandsForShelf, end_of, steps_of}
use Rattle.lr_shelf_format.specs.Walk.{IsBrokenAt, IsOpen, IsWalk, Step}
use Rattle.lr_shelf_format.specs.declared.entry.Entry.{Entry}
use Rattle.lr_shelf_format.specs.declared.item.ItemHead.{ItemHead}
use Rattle.lr_shelf_format.specs.declared.item.ItemHead.TheVariants.{Old, Add, Discard}
use Rattle.lr_shelf_format.specs.declared.stored.Stored.{Stored}

-- ---- the entries of a walk

-- the entry of this number; where there is none, one of no bytes at 0
abbrev pub entry_in : List Entry → ℕ → Entry
entry_in entries number = slice_index_or entries number (record { gate = 0; extent = 0; gone = false })

-- the entries, with this one gone
abbrev pub entries_with_gone : ℕ → List Entry → List Entry
entries_with_gone number [] = []
entries_with_gone zero (entry ∷ entries) = record { gate = entry.gate; extent = entry.extent; gone = true } ∷ entries
entries_with_gone (suc number) (entry ∷ entries) = entry ∷ entries_with_gone number entries

-- the entries, with an item of this head after this gate: an entry more, or one of them gone
abbrev pub entries_with : ℕ → ItemHead → List Entry → List Entry
entries_with gate (Old head) entries =
    entries ++ record { gate = gate; extent = extent_of (Old head); gone = false } ∷ []
entries_with gate (Add head) entries =
    entries ++ record { gate = gate; extent = extent_of (Add head); gone = false } ∷ []
entries_with gate (Discard number) entries = entries_with_gone number entries

-- the entries, and those of further steps
abbrev pub entries_after : List Entry → List Step → List Entry
entries_after entries [] = entries
entries_after entries (step ∷ steps) = entries_after (entries_with step.gate step.head entries) steps

abbrev pub entries_on : List Step → List Entry
entries_on steps = entries_after [] steps

-- an item of this head may follow the items of these entries: a Discard names an entry that isn't gone
abbrev pub MayJoin : List Entry → ItemHead → Type 0
MayJoin entries (Old head) = Unit {0}
MayJoin entries (Add head) = Unit {0}
MayJoin entries (Discard number) = (number < length entries) × ((entry_in entries number).gone ≡ false)

-- ---- ways

-- a capacity, the entries in their order, and the end, the last gate included
pub record Way : Type 0 where
  pub capacity : ℕ
  pub entries : List Entry
  pub end : ℕ

-- The bytes have this way: a header for the capacity stands there, and the entries and the end are those of the walk.
pub record IsWay (bytes : List ℕ) (way : Way) : Type 0 where
  pub steps : List Step
  pub last : ℕ
  pub header : HasHeader bytes way.capacity
  pub walk : IsWalk bytes steps last
  pub entries : way.entries ≡ entries_on steps
  pub end : way.end ≡ last + 1

-- The bytes have none: at 0 since no header stands there, or at a place where the walk is broken.
abbrev pub IsNoShelfAt : List ℕ → ℕ → Type 0
IsNoShelfAt bytes at =
    ((at ≡ 0) × ((capacity : ℕ) → HasHeader bytes capacity → ⊥))
    ⊎ (((capacity : ℕ) × HasHeader bytes capacity) × IsBrokenAt bytes at)

-- the way of a shelf of these items
abbrev pub way_of : ℕ → List Item → Way
way_of capacity items = record {
  capacity = capacity;
  entries = entries_on (steps_of first_gate items);
  end =
      end_of items;
}

-- the way, with an item of this head after the gate at its end
abbrev pub way_with : ItemHead → Way → Way
way_with head way = record {
  capacity = way.capacity;
  entries = entries_with (way.end - 1) head way.entries;
  end = way.end + 1 + extent_of head;
}

-- ---- what stands at an entry

-- as many bytes after the gate as the item has
abbrev pub item_at : List ℕ → Entry → List ℕ
item_at bytes entry = take entry.extent (drop (entry.gate + 1) bytes)

-- After the gate, which is open, stands an Old or an Add item of this extent, whatever its checksum.
pub record HasRecord (bytes : List ℕ) (entry : Entry) : Type 0 where
  pub is_open : IsOpen bytes entry.gate
  pub inside : entry.gate + 1 + entry.extent ≤ length bytes
  pub form : IsFileRecord (item_at bytes entry)

-- and its checksum is right
pub record HasSoundRecord (bytes : List ℕ) (entry : Entry) : Type 0 where
  pub has : HasRecord bytes entry
  pub right : stored_checksum (item_at bytes entry) ≡ computed_checksum (item_at bytes entry)

-- What an entry is found to be: a file, with its origin if its item tells one; the stored checksum and the computed
-- one, where they differ; or gone.
pub data EntryState : Type 0 where
  Sound : (stored : Stored) → EntryState
  Bad : (stored computed : ℕ) → EntryState
  Gone : EntryState

-- what stands at this entry; None where no Old or Add item of its extent does
abbrev pub IsFound : List ℕ → Entry → Option EntryState → Type 0
IsFound bytes entry None = (entry.gone ≡ false) × (HasRecord bytes entry → ⊥)
IsFound bytes entry (Some (Sound stored)) =
    (entry.gone ≡ false) × HasSoundRecord bytes entry × Holds (item_at bytes entry) stored
IsFound bytes entry (Some (Bad stored computed)) =
    (entry.gone ≡ false) × HasRecord bytes entry × (stored ≡ stored_checksum (item_at bytes entry))
    × (computed ≡ computed_checksum (item_at bytes entry)) × (stored ≢ computed)
IsFound bytes entry (Some Gone) = entry.gone ≡ true

-- ---- laws

-- bytes have one way, and then no place at which they are no shelf; or one such place
pub record HasOneWay (bytes : List ℕ) : Type 0 where
  pub way : (way way' : Way) → IsWay bytes way → IsWay bytes way' → way ≡ way'
  pub none : (way : Way) (at : ℕ) → IsWay bytes way → IsNoShelfAt bytes at → ⊥
  pub place : (at at' : ℕ) → IsNoShelfAt bytes at → IsNoShelfAt bytes at' → at ≡ at'
  pub some : ((way : Way) × IsWay bytes way) ⊎ ((at : ℕ) × IsNoShelfAt bytes at)

-- the bytes of a shelf have the way of its items
abbrev pub HasWay : Type 0
HasWay =
    (bytes : List ℕ) (capacity : ℕ) (items : List Item) → StandsForShelf bytes capacity items
    → IsWay bytes (way_of capacity items)

-- one thing stands at an entry, at most
abbrev pub IsFoundOnce : List ℕ → Entry → Type 0
IsFoundOnce bytes entry = (one other : Option EntryState) → IsFound bytes entry one → IsFound bytes entry other
    → one ≡ other

-- Something stands at each entry, of bytes below 256.
abbrev pub IsFoundThere : List ℕ → Entry → Type 0
IsFoundThere bytes entry = All (λ byte. byte < 256) bytes → (found : Option EntryState) × IsFound bytes entry found
