-- What `append` and `discard` have in common: an item is added at the end.
use Rattle.std.specs.Prelude.{◌≡◌, ◌⊎◌, ◌+◌, ◌-◌, ℕ, min, true, false, List, [], ◌∷◌, ◌++◌, take, drop}
use Rattle.std.specs.Prelude.{Result, Err, OnOk, IfErr}
use Rattle.lr_bits.specs.Sizes.{most_u64}
use Rattle.lr_disk.specs.declared.disk.Disk.{Ghosts as DiskOf}
use Rattle.lr_disk.specs.Pending.{EachImageSince, NothingPending}
use Rattle.lr_shelf_format.specs.Items.{Item, extent_of, head_of_item, item_bytes}
use Rattle.lr_shelf.specs.Adding.{StaysOutside, WithOrWithout}
use Rattle.lr_shelf.specs.Calls.{Calls}
use Rattle.lr_shelf.specs.Kept.{KeptShelf, ShelfOn, kept_on, kept_with}
use Rattle.lr_shelf.specs.Shelf.{HasEitherWay, IsSettled, KeepsWay, StandsForEither}
use Rattle.lr_shelf.specs.declared.error.ShelfError.{ShelfError}
use Rattle.lr_shelf.specs.declared.error.ShelfError.TheVariants.{Disk}

-- where the shelf would end with the item
abbrev pub new_end : Item → KeptShelf → ℕ
new_end item kept = kept.way.end + 1 + extent_of (head_of_item item)

-- where the shelf would end with the item, as a number of 64 bits: the greatest of them where it is past that
abbrev pub needed_by : Item → KeptShelf → ℕ
needed_by item kept = min (new_end item kept) most_u64

-- the place of the gate at its end
abbrev pub last_gate : KeptShelf → ℕ
last_gate kept = kept.way.end - 1

module _ {D : Type 0} (disk : DiskOf D) where
  -- over a disk whose way the shelf keeps, whatever its records hold and wherever it ends: what is there at the return,
  -- and what a stop at any moment leaves, as ways and as bytes
  pub record AddsOnWay {A : Type 0} (item : Item) (old new : ShelfOn D) (result : Result A ShelfError) : Type 0 where
    pub way : disk.tells old.disk → KeepsWay (disk.contents old.disk) old.shelf
        → OnOk result (KeepsWay (disk.contents new.disk) new.shelf)
    pub either : disk.tells old.disk → KeepsWay (disk.contents old.disk) old.shelf
        → HasEitherWay (kept_on old).way item (disk.contents new.disk)
    pub any_moment : disk.tells old.disk → KeepsWay (disk.contents old.disk) old.shelf
        → NothingPending disk old.disk
        → EachImageSince disk old.disk new.disk (HasEitherWay (kept_on old).way item)
    pub bytes_any_moment : disk.tells old.disk → KeepsWay (disk.contents old.disk) old.shelf
        → NothingPending disk old.disk
        → EachImageSince disk old.disk new.disk
        (WithOrWithout (take (last_gate (kept_on old)) (disk.contents old.disk)) (item_bytes item))

  -- over a shelf of some items: what a stop at any moment leaves, and what is there at the return
  pub record AddsOnItems {A : Type 0} (item : Item) (old new : ShelfOn D) (result : Result A ShelfError) : Type 0 where
    pub any_moment : (capacity : ℕ) (items : List Item) → IsSettled disk capacity items old.shelf old.disk
        → EachImageSince disk old.disk new.disk (StandsForEither capacity items item)
    pub acknowledged : (capacity : ℕ) (items : List Item) → IsSettled disk capacity items old.shelf old.disk
        → OnOk result (IsSettled disk capacity (items ++ item ∷ []) new.shelf new.disk)
    pub either : (capacity : ℕ) (items : List Item) → IsSettled disk capacity items old.shelf old.disk
        → StandsForEither capacity items item (disk.contents new.disk)
        × ((c : List ℕ) → disk.may_leave new.disk c → StandsForEither capacity items item c)

  pub record Adds {A : Type 0} (item : Item) (old new : ShelfOn D) (result : Result A ShelfError) : Type 0 where
    pub calls : Calls disk old.disk new.disk result
    -- what a refusal leaves, and what the shelf keeps after Ok
    pub untouched : IfErr result (λ error. (error ≡ Disk) ⊎ ((new.disk ≡ old.disk) × (kept_on new ≡ kept_on old)))
    pub failed : result ≡ Err Disk → kept_on new ≡ record (kept_on old) { failed = true }
    pub working : OnOk result ((kept_on old).failed ≡ false)
    pub kept : OnOk result (kept_on new ≡ kept_with item (kept_on old))
    -- over every disk that tells its contents: the bytes before the gate and after the new end stay, at each return
    -- and in each image, and after Ok the gate is open, the item stands after it and then a closed gate, and nothing
    -- is pending
    pub outside : disk.tells old.disk
        → StaysOutside (last_gate (kept_on old)) (new_end item (kept_on old)) (disk.contents old.disk)
        (disk.contents new.disk)
    pub outside_any_moment : disk.tells old.disk → NothingPending disk old.disk
        → EachImageSince disk old.disk new.disk
        (StaysOutside (last_gate (kept_on old)) (new_end item (kept_on old)) (disk.contents old.disk))
    pub stands : disk.tells old.disk
        → OnOk result (take (2 + extent_of (head_of_item item))
        (drop (last_gate (kept_on old)) (disk.contents new.disk)) ≡ 1 ∷ (item_bytes item ++ 0 ∷ []))
    pub durable : disk.tells old.disk → OnOk result (NothingPending disk new.disk)
    pub on_way : AddsOnWay item old new result
    pub on_items : AddsOnItems item old new result
