-- The refusals of `append` and `discard`, each exactly where it says.
use Rattle.std.proofs.Common.{◌≡◌, ◌≢◌, ◌<◌, ◌≤◌, ℕ, true, false, List, length, Ok, Err, refl, ap, ◌∙◌, subst, arith}
use Rattle.lr_bits.specs.declared.placed.Placed.{Placed}
use Rattle.lr_disk.specs.declared.disk.Disk.{Ghosts as DiskOf}
use Rattle.lr_shelf_format.specs.Items.{Item, discard_item}
use Rattle.lr_shelf.specs.Adds.{Adds, needed_by, new_end}
use Rattle.lr_shelf.specs.Append.{Appends, IsAppendRefusal, item_for}
use Rattle.lr_shelf.specs.Asked.{IsAskable, IsEntryRefusal, entry_of}
use Rattle.lr_shelf.specs.Discards.{Discards, IsDiscardError}
use Rattle.lr_shelf.specs.Kept.{KeptShelf, kept_by, shelf_on}
use Rattle.lr_shelf.specs.declared.error.ShelfError.{ShelfError}
use Rattle.lr_shelf.specs.declared.error.ShelfError.TheVariants.{Disk, NotAShelf, NotEmpty}
use Rattle.lr_shelf.specs.declared.error.ShelfError.TheVariants.{Capacity, NoSuchFile, Crc}
use Rattle.lr_shelf.specs.declared.error.ShelfError.TheVariants.{NoMemory, Failed, Discarded}
use Rattle.lr_shelf.specs.declared.shelf.Shelf.{Shelf}
use Rattle.lr_shelf.proofs.AddingExits.{refused}
use Rattle.lr_shelf.proofs.ItemsKept.{entry_count_is}

module _ (item : Item) (kept : KeptShelf) where
  spent_append : (error : ShelfError) → IsAppendRefusal item kept error → kept.failed ≡ true → error ≡ Failed
  spent_append Disk is failed = cc (is.0, failed)
  spent_append (Capacity needed capacity) is failed = cc (is.0, failed)
  spent_append NoMemory is failed = cc (is.0, failed)
  spent_append Failed is failed = refl
  spent_append (NotAShelf at) is failed = absurd is
  spent_append (NotEmpty n) is failed = absurd is
  spent_append (NoSuchFile count) is failed = absurd is
  spent_append (Crc stored computed) is failed = absurd is
  spent_append Discarded is failed = absurd is

  full_append : (error : ShelfError) → IsAppendRefusal item kept error → kept.failed ≡ false
      → kept.way.capacity < new_end item kept → error ≡ Capacity (needed_by item kept) kept.way.capacity
  full_append Disk is works over = absurd (omega (arith, is.1, over))
  full_append (Capacity needed capacity) is works over = ap (λ n. Capacity n capacity) is.2
      ∙ ap (Capacity (needed_by item kept)) is.3
  full_append NoMemory is works over = absurd (omega (arith, is.1, over))
  full_append Failed is works over = cc (is, works)
  full_append (NotAShelf at) is works over = absurd is
  full_append (NotEmpty n) is works over = absurd is
  full_append (NoSuchFile count) is works over = absurd is
  full_append (Crc stored computed) is works over = absurd is
  full_append Discarded is works over = absurd is

module _ (number : ℕ) (kept : KeptShelf) where
  spent_discard : (error : ShelfError) → IsDiscardError number kept error → kept.failed ≡ true → error ≡ Failed
  spent_discard Disk is failed = cc (is.0.working, failed)
  spent_discard (Capacity needed capacity) is failed = cc (is.0.working, failed)
  spent_discard NoMemory is failed = absurd is
  spent_discard Failed is failed = refl
  spent_discard (NotAShelf at) is failed = absurd is
  spent_discard (NotEmpty n) is failed = absurd is
  spent_discard (NoSuchFile count) is failed = cc (is.0, failed)
  spent_discard (Crc stored computed) is failed = absurd is
  spent_discard Discarded is failed = cc (is.0, failed)

  absent_discard : (error : ShelfError) → IsDiscardError number kept error → kept.failed ≡ false
      → length kept.way.entries ≤ number → error ≡ NoSuchFile (length kept.way.entries)
  absent_discard Disk is works absent = absurd (omega (arith, is.0.there, absent))
  absent_discard (Capacity needed capacity) is works absent = absurd (omega (arith, is.0.there, absent))
  absent_discard NoMemory is works absent = absurd is
  absent_discard Failed is works absent = cc (is, works)
  absent_discard (NotAShelf at) is works absent = absurd is
  absent_discard (NotEmpty n) is works absent = absurd is
  absent_discard (NoSuchFile count) is works absent = ap NoSuchFile is.1
  absent_discard (Crc stored computed) is works absent = absurd is
  absent_discard Discarded is works absent = absurd (omega (arith, is.1, absent))

  gone_discard : (error : ShelfError) → IsDiscardError number kept error → kept.failed ≡ false
      → number < length kept.way.entries → (entry_of kept number).gone ≡ true → error ≡ Discarded
  gone_discard Disk is works there gone = cc (is.0.stays, gone)
  gone_discard (Capacity needed capacity) is works there gone = cc (is.0.stays, gone)
  gone_discard NoMemory is works there gone = absurd is
  gone_discard Failed is works there gone = cc (is, works)
  gone_discard (NotAShelf at) is works there gone = absurd is
  gone_discard (NotEmpty n) is works there gone = absurd is
  gone_discard (NoSuchFile count) is works there gone = absurd (omega (arith, is.1, is.2, there))
  gone_discard (Crc stored computed) is works there gone = absurd is
  gone_discard Discarded is works there gone = refl

  full_discard : (error : ShelfError) → IsDiscardError number kept error → IsAskable kept number
      → kept.way.capacity < new_end (discard_item number) kept
      → error ≡ Capacity (needed_by (discard_item number) kept) kept.way.capacity
  full_discard Disk is askable over = absurd (omega (arith, is.1, over))
  full_discard (Capacity needed capacity) is askable over = ap (λ n. Capacity n capacity) is.2
      ∙ ap (Capacity (needed_by (discard_item number) kept)) is.3
  full_discard NoMemory is askable over = absurd is
  full_discard Failed is askable over = cc (is, askable.working)
  full_discard (NotAShelf at) is askable over = absurd is
  full_discard (NotEmpty n) is askable over = absurd is
  full_discard (NoSuchFile count) is askable over = absurd (omega (arith, is.1, is.2, askable.there))
  full_discard (Crc stored computed) is askable over = absurd is
  full_discard Discarded is askable over = cc (is.2, askable.stays)

-- a refusal that the shelf gives by itself
pub entry_to_discard : (number : ℕ) (kept : KeptShelf) (error : ShelfError) → IsEntryRefusal kept number error
    → IsDiscardError number kept error
entry_to_discard number kept Disk is = absurd is
entry_to_discard number kept (NotAShelf at) is = is
entry_to_discard number kept (NotEmpty n) is = is
entry_to_discard number kept (Capacity needed capacity) is = absurd is
entry_to_discard number kept (NoSuchFile count) is = is
entry_to_discard number kept (Crc stored computed) is = is
entry_to_discard number kept NoMemory is = is
entry_to_discard number kept Failed is = is
entry_to_discard number kept Discarded is = is

pub not_disk : (number : ℕ) (kept : KeptShelf) (error : ShelfError) → IsEntryRefusal kept number error → error ≢ Disk
not_disk number kept error is same = absurd (subst (IsEntryRefusal kept number) same is)

module _ {D : Type 0} (disk : DiskOf D) where
  pub append_err : (placed : Placed) (old new : Shelf) (d d' : D) (error : ShelfError)
      → Adds disk {A = ℕ} (item_for placed) (shelf_on old d) (shelf_on new d') (Err error)
      → IsAppendRefusal (item_for placed) (kept_by old) error
      → Appends disk placed (shelf_on old d) (shelf_on new d') (Err error)
  append_err placed old new d d' error adds is = record {
    adds = adds;
    refused = is;
    spent = λ failed. ap Err (spent_append (item_for placed) (kept_by old) error is failed);
    full = λ works over. ap Err (full_append (item_for placed) (kept_by old) error is works over);
    number = tt;
    numbered = λ capacity items s. tt;
  }

  pub append_ok : (placed : Placed) (old new : Shelf) (d d' : D) (number : ℕ)
      → Adds disk (item_for placed) (shelf_on old d) (shelf_on new d') (Ok number) → (kept_by old).failed ≡ false
      → new_end (item_for placed) (kept_by old) ≤ (kept_by old).way.capacity
      → number ≡ length (kept_by old).way.entries → Appends disk placed (shelf_on old d) (shelf_on new d') (Ok number)
  append_ok placed old new d d' number adds works fits is = record {
    adds = adds;
    refused = tt;
    spent = λ failed. cc (failed, works);
    full = λ _ over. absurd (omega (arith, over, fits));
    number = is;
    numbered = λ capacity items s. is ∙ entry_count_is capacity items old s.on_disk.stands.proper s.kept;
  }

  pub discard_err : (number : ℕ) (old new : Shelf) (d d' : D) (error : ShelfError)
      → Adds disk {A = Unit {0}} (discard_item number) (shelf_on old d) (shelf_on new d') (Err error)
      → IsDiscardError number (kept_by old) error → Discards disk number (shelf_on old d) (shelf_on new d') (Err error)
  discard_err number old new d d' error adds is = record {
    adds = adds;
    refused = is;
    spent = λ failed. ap Err (spent_discard number (kept_by old) error is failed);
    absent = λ works far. ap Err (absent_discard number (kept_by old) error is works far);
    gone = λ works there marked. ap Err (gone_discard number (kept_by old) error is works there marked);
    full = λ askable over. ap Err (full_discard number (kept_by old) error is askable over);
  }

  pub discard_ok : (number : ℕ) (old new : Shelf) (d d' : D) (answer : Unit {0})
      → Adds disk (discard_item number) (shelf_on old d) (shelf_on new d') (Ok answer) → IsAskable (kept_by old) number
      → new_end (discard_item number) (kept_by old) ≤ (kept_by old).way.capacity
      → Discards disk number (shelf_on old d) (shelf_on new d') (Ok answer)
  discard_ok number old new d d' answer adds askable fits = record {
    adds = adds;
    refused = tt;
    spent = λ failed. cc (failed, askable.working);
    absent = λ works far. absurd (omega (arith, askable.there, far));
    gone = λ works there marked. cc (askable.stays, marked);
    full = λ _ over. absurd (omega (arith, over, fits));
  }

module _ {D : Type 0} (disk : DiskOf D)
    (only_now : (d : D) (c : List ℕ) → disk.tells d → disk.left_since d (disk.moment d) c → disk.may_leave d c) where
  -- before the disk is written
  pub append_refused : (placed : Placed) (old new : Shelf) (d : D) (error : ShelfError)
      → IsAppendRefusal (item_for placed) (kept_by old) error → error ≢ Disk → kept_by new ≡ kept_by old
      → Appends disk placed (shelf_on old d) (shelf_on new d) (Err error)
  append_refused placed old new d error is other same =
      append_err disk placed old new d d error (refused disk only_now (item_for placed) old d new error other same) is

  pub discard_refused : (number : ℕ) (old new : Shelf) (d : D) (error : ShelfError)
      → IsDiscardError number (kept_by old) error → error ≢ Disk → kept_by new ≡ kept_by old
      → Discards disk number (shelf_on old d) (shelf_on new d) (Err error)
  discard_refused number old new d error is other same =
      discard_err disk number old new d d error
      (refused disk only_now (discard_item number) old d new error other same) is
