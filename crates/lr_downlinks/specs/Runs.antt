-- What a run over a bundle leaves.
use Rattle.std.specs.Prelude.{◌≡◌, ◌⊎◌, ◌+◌, ◌<◌, ℕ, min, List, [], ◌∷◌, ◌++◌, length, slice_get, Some}
use Rattle.lr_bits.specs.Faults.{Rose}
use Rattle.lr_bits.specs.declared.placed.Placed.{Placed}
use Rattle.lr_bits.specs.Sizes.{most_u64}
use Rattle.lr_disk.specs.declared.disk.Disk.{Ghosts as DiskOf}
use Rattle.lr_shelf_format.specs.Items.{Item}
use Rattle.lr_shelf_format.specs.Way.{Way}
use Rattle.lr_shelf.specs.Kept.{ShelfOn, kept_on}
use Rattle.lr_shelf.specs.Shelf.{IsSettled}
use Rattle.lr_downlinks.specs.Merge.{IsNextOf, IsOrder, IsWhole, merge}
use Rattle.lr_downlinks.specs.Receipts.{HasFileAt, receipt_at}
use Rattle.lr_downlinks.specs.Room.{AllFit, NextDoesNotFit}
use Rattle.lr_shelf.specs.Prefixes.{way_with_files}
use Rattle.lr_downlinks.specs.Appended.{HasAppended, MayHaveAppended}
use Rattle.lr_downlinks.specs.declared.run.Run.{Run}
use Rattle.lr_downlinks.specs.declared.run.RunEnd.{RunEnd}
use Rattle.lr_downlinks.specs.declared.run.RunEnd.TheVariants.{All, Disk, NoMemory, Capacity}

-- the files of each of this many downlinks
pub record AllFiles : Type 0 where
  pub count : ℕ
  pub files : ℕ → List Placed

abbrev pub all_files : ℕ → (ℕ → List Placed) → AllFiles
all_files count files = record { count = count; files = files }

-- and an order in which they are merged
pub record Merging : Type 0 where
  pub count : ℕ
  pub files : ℕ → List Placed
  pub order : List ℕ

abbrev pub merging : ℕ → (ℕ → List Placed) → List ℕ → Merging
merging count files order = record { count = count; files = files; order = order }

abbrev pub merged_files : Merging → List Placed
merged_files merged = merge merged.files merged.order

module _ (merged : Merging) where
  -- and that end, at most the greatest number of 64 bits, and the capacity are these
  pub record NextDoesNotFitBy (way : Way) (needed capacity : ℕ) : Type 0 where
    pub placed : Placed
    pub full : NextDoesNotFit merged.count merged.files merged.order way placed
    pub needs : needed ≡ min (way_with_files (merged_files merged ++ placed ∷ []) way).end most_u64
    pub of : capacity ≡ way.capacity

  -- some downlink has this next file, and the disk failed in it
  pub record BreaksAtNext {D : Type 0} (disk : DiskOf D) (first : ShelfOn D) (d' : D) : Type 0 where
    pub downlink : ℕ
    pub placed : Placed
    pub next : IsNextOf merged.count merged.files merged.order downlink placed
    pub appended : MayHaveAppended disk first (merged_files merged) placed d'

  -- how a run ends, and what it leaves of the disk, for each result
  abbrev pub MergeEnds : {D : Type 0} → DiskOf D → RunEnd → ShelfOn D → D → Type 0
  MergeEnds disk All first d' = HasAppended disk first (merged_files merged) d'
      × IsWhole merged.count merged.files merged.order
  MergeEnds disk Disk first d' = BreaksAtNext disk first d'
  MergeEnds disk NoMemory first d' = HasAppended disk first (merged_files merged) d'
  MergeEnds disk (Capacity needed capacity) first d' =
      HasAppended disk first (merged_files merged) d' × NextDoesNotFitBy (kept_on first).way needed capacity

-- a run over the files of this many downlinks
pub record MergesOver {D : Type 0} (disk : DiskOf D) (all : AllFiles) (first : ShelfOn D) (d' : D) (run : Run) : Type
    0 where
  pub base : run.base ≡ length (kept_on first).way.entries
  -- each file once, and those of each downlink in their order
  pub order_is : IsOrder all.count all.files run.order
  pub ends : MergeEnds (merging all.count all.files run.order) disk run.result first d'
  -- where nothing was appended, the disk is as it was, unless it failed
  pub untouched : run.order ≡ [] → (run.result ≡ Disk) ⊎ (d' ≡ first.disk)
  -- exactly then, unless memory was refused or the disk failed
  pub whole : IsWhole all.count all.files run.order → (run.result ≡ All) ⊎ (run.result ≡ NoMemory)
  pub full : (placed : Placed) → NextDoesNotFit all.count all.files run.order (kept_on first).way placed
      → (run.result ≡ Disk) ⊎ (run.result ≡ NoMemory)
      ⊎ ((needed : ℕ) × (run.result ≡ Capacity needed (kept_on first).way.capacity))
  -- where the disk's count doesn't rise and all files fit, all are appended or memory was refused
  pub complete : (Rose (disk.faults first.disk) (disk.faults d') → ⊥) → AllFit all.count all.files (kept_on first).way
      → (run.result ≡ All) ⊎ (run.result ≡ NoMemory)
  -- the file of each receipt; over a shelf of these items, that it is the entry of its number
  pub receipts : (at : ℕ) → at < length run.order → (placed : Placed)
      × (slice_get (all.files (receipt_at run.base run.order at).downlink) (receipt_at run.base run.order at).place
      ≡ Some placed)
      × ((capacity : ℕ) (items : List Item) → IsSettled disk capacity items first.shelf first.disk
      → HasFileAt capacity (run.base + at) placed (disk.contents d')
      × ((c : List ℕ) → disk.may_leave d' c → HasFileAt capacity (run.base + at) placed c))
