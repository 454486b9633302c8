-- A shelf that was loaded from its disk.
use Rattle.std.proofs.Common.{◌≡◌, ℕ, List, Result, Ok, IfOk, OnOk, false, subst}
use Rattle.lr_bits.specs.Telling.{KeepsTelling}
use Rattle.lr_disk.specs.Pending.{NothingPending}
use Rattle.lr_disk.specs.Reads.{IsOnlyRead}
use Rattle.lr_disk.specs.declared.disk.Disk.{Ghosts as DiskOf}
use Rattle.lr_shelf_format.specs.Items.{Item}
use Rattle.lr_shelf_format.specs.Way.{IsWay}
use Rattle.lr_shelf.specs.Calls.{IsFaultCounted}
use Rattle.lr_shelf.specs.Kept.{kept_by}
use Rattle.lr_shelf.specs.Load.{Loads}
use Rattle.lr_shelf.specs.Shelf.{IsDurable, IsSettled, KeepsWay}
use Rattle.lr_shelf.specs.declared.error.ShelfError.{ShelfError}
use Rattle.lr_shelf.specs.declared.shelf.Shelf.{Shelf}

-- The disk was only read, and the shelf that was loaded from it works.
pub record IsReady {D : Type 0} (disk : DiskOf D) (d d' : D) (shelf : Shelf) : Type 0 where
  pub tell : KeepsTelling (disk.tells d) (disk.tells d')
  pub only_read : IsOnlyRead disk d d'
  pub count : disk.faults d' ≡ disk.faults d
  pub works : (kept_by shelf).failed ≡ false
  pub keeps : disk.tells d → KeepsWay (disk.contents d') shelf
  pub settled : (capacity : ℕ) (items : List Item) → disk.tells d → IsDurable disk capacity items d
      → IsSettled disk capacity items shelf d'
  pub synced : disk.tells d → NothingPending disk d'

module _ {D : Type 0} (disk : DiskOf D) where
  pub ready_loaded : (d d' : D) (result : Result Shelf ShelfError) (shelf : Shelf) → Loads disk d d' result
      → result ≡ Ok shelf → IsReady disk d d' shelf
  ready_loaded d d' result shelf loads is = record {
    tell = loads.calls.tell;
    only_read = loads.only_read;
    count =
        subst (λ (r : Result Shelf ShelfError). IsFaultCounted (disk.faults d) (disk.faults d') r) is
        loads.calls.counted;
    works = subst (λ (r : Result Shelf ShelfError). IfOk r (λ s. (kept_by s).failed ≡ false)) is loads.working;
    keeps = λ t. subst (λ (r : Result Shelf ShelfError). IfOk r (KeepsWay (disk.contents d'))) is (loads.way t);
    settled = λ capacity items t durable.
        subst (λ (r : Result Shelf ShelfError). IfOk r (λ s. IsSettled disk capacity items s d')) is
        (loads.settled capacity items t durable.stands);
    synced = λ t.
        subst (λ (r : Result Shelf ShelfError). OnOk r (NothingPending disk d')) is
        (loads.synced t);
  }

  pub way_read : (d d1 : D) (shelf : Shelf) → IsReady disk d d1 shelf → disk.tells d
      → IsWay (disk.contents d) (kept_by shelf).way
  way_read d d1 shelf ready t =
      subst (λ (l : List ℕ). IsWay l (kept_by shelf).way) (ready.only_read.unwritten t).contents (ready.keeps t)
