-- How the rest is appended once the threads have ended. No clause of a public call cites this.
use Rattle.std.specs.Prelude.{◌≡◌, ◌≤◌, ◌<◌, ℕ, min, true, false, [], ◌∷◌, ◌++◌, length, slice_get, Some}
use Rattle.lr_bits.specs.declared.placed.Placed.{Placed}
use Rattle.lr_bits.specs.Sizes.{most_u64}
use Rattle.lr_shelf.specs.declared.error.ShelfError.{ShelfError}
use Rattle.lr_shelf.specs.declared.error.ShelfError.TheVariants.{Disk as Disk'}
use Rattle.lr_shelf.specs.declared.error.ShelfError.TheVariants.{NoMemory as NoMemory'}
use Rattle.lr_shelf.specs.declared.error.ShelfError.TheVariants.{Capacity as Capacity'}
use Rattle.lr_downlinks.specs.Books.{BookView}
use Rattle.lr_downlinks.specs.Merge.{IsWhole, times_in_order}
use Rattle.lr_downlinks.specs.Runs.{NextDoesNotFitBy, merging}
use Rattle.lr_shelf.specs.Prefixes.{way_with_files}
use Rattle.lr_downlinks.specs.Start.{Start, files_in, merged}
use Rattle.lr_downlinks.specs.declared.run.RunEnd.{RunEnd}
use Rattle.lr_downlinks.specs.declared.run.RunEnd.TheVariants.{All, Disk, NoMemory, Capacity}

-- no downlink stands in the order less often
abbrev pub BookGoesOn : {D : Type 0} → BookView D → BookView D → Type 0
BookGoesOn old new = (downlink : ℕ) → times_in_order downlink old.order ≤ times_in_order downlink new.order

-- the next file of this downlink doesn't fit
pub record DoesNotFitAt {D : Type 0} (start : Start) (downlink needed capacity : ℕ) (book : BookView D) : Type 0 where
  pub placed : Placed
  pub next : slice_get (files_in start downlink) (times_in_order downlink book.order) ≡ Some placed
  pub over : start.way.capacity < (way_with_files (merged start book.order ++ placed ∷ []) start.way).end
  pub needs : needed ≡ min (way_with_files (merged start book.order ++ placed ∷ []) start.way).end most_u64
  pub of : capacity ≡ start.way.capacity

-- why the next file of this downlink was refused
abbrev pub IsLeftAt : {D : Type 0} → Start → ℕ → BookView D → ShelfError → Type 0
IsLeftAt start downlink book Disk' = book.failed ≡ true
IsLeftAt start downlink book (Capacity' needed capacity) =
    (book.failed ≡ false) × DoesNotFitAt start downlink needed capacity book
IsLeftAt start downlink book NoMemory' = book.failed ≡ false
IsLeftAt start downlink book error = ⊥

-- how the run ends with this book
abbrev pub RunEndsWith : {D : Type 0} → Start → BookView D → RunEnd → Type 0
RunEndsWith start book All = (book.failed ≡ false) × IsWhole (length start.streams) (files_in start) book.order
RunEndsWith start book Disk = book.failed ≡ true
RunEndsWith start book NoMemory = book.failed ≡ false
RunEndsWith start book (Capacity needed capacity) =
    (book.failed ≡ false)
    × NextDoesNotFitBy (merging (length start.streams) (files_in start) book.order) start.way needed capacity
