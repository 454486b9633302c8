-- What the type of a book keeps, whichever thread had it.
use Rattle.std.specs.Prelude.{◌≡◌, ◌≤◌, ℕ, Bool, true, false, List, [], length}
use Rattle.std.specs.Borrow.{GName}
use Rattle.lr_bits.specs.declared.placed.Placed.{Placed}
use Rattle.lr_disk.specs.declared.disk.Disk.{Ghosts as DiskOf}
use Rattle.lr_shelf.specs.InitialShelves.{InitialShelf, IsSettledOn, KeepsOn}
use Rattle.lr_shelf.specs.Kept.{ShelfOn, kept_by, kept_on, shelf_on}
use Rattle.lr_shelf.specs.declared.shelf.Shelf.{Shelf}
use Rattle.lr_downlinks.specs.Merge.{IsNextOf, IsOrder}
use Rattle.lr_shelf.specs.Prefixes.{way_with_files}
use Rattle.lr_downlinks.specs.Appended.{HasAppended, MayHaveAppended}
use Rattle.lr_downlinks.specs.Start.{Start, files_in, merged}
use Rattle.lr_downlinks.specs.declared.sizes.TheConstants.{MOST_DOWNLINKS}

-- the shelf and its disk, the downlink of each file that was appended, and whether the disk failed in an append
pub record BookView (D : Type 0) : Type 0 where
  pub shelf : Shelf
  pub disk : D
  pub order : List ℕ
  pub failed : Bool

-- its shelf, on its disk
abbrev pub shelf_of_book : {D : Type 0} → BookView D → ShelfOn D
shelf_of_book book = shelf_on book.shelf book.disk

-- The order is one of the bundle, and the shelf keeps the files that were appended in this order.
pub record IsBookOf {D : Type 0} (start : Start) (book : BookView D) : Type 0 where
  pub order_is : IsOrder (length start.streams) (files_in start) book.order
  pub kept : kept_by book.shelf
      ≡ record { way = way_with_files (merged start book.order) start.way; failed = book.failed }

module _ {D : Type 0} (disk : DiskOf D) (start : Start) where
  -- `first` is what was handed in
  module _ (first : ShelfOn D) where
    -- no append met a fault of the disk
    pub record BookWorks (book : BookView D) : Type 0 where
      pub appended : HasAppended disk first (merged start book.order) book.disk
      pub keeps : (initial : InitialShelf) → IsSettledOn initial [] disk first.shelf first.disk
          → KeepsOn initial (merged start book.order) book.shelf

    -- one did, in the next file of some downlink
    pub record Broke (book : BookView D) : Type 0 where
      pub downlink : ℕ
      pub placed : Placed
      pub next : IsNextOf (length start.streams) (files_in start) book.order downlink placed
      pub appended : MayHaveAppended disk first (merged start book.order) placed book.disk

    abbrev pub WorksOrBroke : Bool → BookView D → Type 0
    WorksOrBroke false book = BookWorks book
    WorksOrBroke true book = Broke book

    pub record StandsOver (book : BookView D) : Type 0 where
      pub same_way : (kept_on first).way ≡ start.way
      pub state : WorksOrBroke book.failed book

  -- `handed` says which shelf and which disk were handed in
  module _ (handed : Shelf → D → Type 0) where
    abbrev pub StandsSince : BookView D → Type 0
    StandsSince book = (shelf : Shelf) (d : D) → handed shelf d → StandsOver (shelf_on shelf d) book

    -- the disk is the one of the start, and it and the shelf have the files that were appended
    pub record KeepsBook (name : GName) (book : BookView D) : Type 0 where
      pub same_disk : name ≡ start.disk
      pub few : length start.streams ≤ MOST_DOWNLINKS
      pub files : IsBookOf start book
      pub stands : StandsSince book

    -- this is the start of a run with this shelf and the disk that is lent under this name
    pub record BeginsRun (name : GName) (first : ShelfOn D) : Type 0 where
      pub disk_is : start.disk ≡ name
      pub way_is : start.way ≡ (kept_on first).way
      pub handed_in : handed first.shelf first.disk
      pub only : (shelf : Shelf) (d : D) → handed shelf d → (shelf ≡ first.shelf) × (d ≡ first.disk)
