-- What becomes of a shelf and its disk since they were handed in, while files are appended one by one.
use Rattle.std.specs.Prelude.{◌≡◌, ◌≤◌, List, [], ◌∷◌, ◌++◌}
use Rattle.lr_bits.specs.Faults.{Rose}
use Rattle.lr_bits.specs.declared.placed.Placed.{Placed}
use Rattle.lr_bits.specs.Telling.{KeepsTelling}
use Rattle.lr_disk.specs.declared.disk.Disk.{Ghosts as DiskOf}
use Rattle.lr_disk.specs.Pending.{EachImageSince, NothingPending}
use Rattle.lr_shelf_format.specs.Way.{IsWay}
use Rattle.lr_shelf.specs.Adding.{StaysOutside}
use Rattle.lr_shelf.specs.Adds.{last_gate}
use Rattle.lr_shelf.specs.Append.{item_for}
use Rattle.lr_shelf.specs.Prefixes.{way_with_files}
use Rattle.lr_shelf.specs.InitialShelves.{InitialShelf, HoldsEitherOn, HoldsStill, IsSettledOn, LeavesPrefixes}
use Rattle.lr_shelf.specs.Kept.{ShelfOn, kept_on}
use Rattle.lr_shelf.specs.Shelf.{HasEitherWay, KeepsWay}

module _ {D : Type 0} (disk : DiskOf D) where
  -- `first` is what was handed in, and `d'` is the disk now
  module _ (first : ShelfOn D) (files : List Placed) where
    -- these files were appended
    pub record HasAppended (d' : D) : Type 0 where
      pub tell : KeepsTelling (disk.tells first.disk) (disk.tells d')
      pub count : disk.faults d' ≡ disk.faults first.disk
      -- where there is none, the disk is as it was
      pub none : files ≡ [] → d' ≡ first.disk
      -- over every disk that tells its contents: the bytes before the last gate and after the new end stay
      pub outside : disk.tells first.disk
          → StaysOutside (last_gate (kept_on first)) (way_with_files files (kept_on first).way).end
          (disk.contents first.disk)
          (disk.contents d')
      pub durable : disk.tells first.disk → NothingPending disk first.disk
          → NothingPending disk d'
      pub outside_any_moment : disk.tells first.disk → NothingPending disk first.disk
          → EachImageSince disk first.disk d'
          (StaysOutside (last_gate (kept_on first)) (way_with_files files (kept_on first).way).end
          (disk.contents first.disk))
      -- over one whose way the shelf kept, whatever its records hold and wherever it ends: what is there now
      pub way : disk.tells first.disk → KeepsWay (disk.contents first.disk) first.shelf
          → IsWay (disk.contents d') (way_with_files files (kept_on first).way)
      -- on an initial shelf with nothing pending: what is there now, and what a stop at any moment leaves
      pub on : (initial : InitialShelf) → IsSettledOn initial [] disk first.shelf first.disk
          → HoldsStill initial files disk d' × LeavesPrefixes disk initial files first.disk d'

    -- these files were appended, and the disk failed in the next one: it is there, or it isn't
    pub record MayHaveAppended (placed : Placed) (d' : D) : Type 0 where
      pub tell : KeepsTelling (disk.tells first.disk) (disk.tells d')
      pub later : disk.faults first.disk ≤ disk.faults d'
      pub rose : Rose (disk.faults first.disk) (disk.faults d')
      -- over every disk that tells its contents
      pub outside : disk.tells first.disk
          → StaysOutside (last_gate (kept_on first)) (way_with_files (files ++ placed ∷ []) (kept_on first).way).end
          (disk.contents first.disk) (disk.contents d')
      pub outside_any_moment : disk.tells first.disk → NothingPending disk first.disk
          → EachImageSince disk first.disk d'
          (StaysOutside (last_gate (kept_on first)) (way_with_files (files ++ placed ∷ []) (kept_on first).way).end
          (disk.contents first.disk))
      -- over one whose way the shelf kept
      pub way : disk.tells first.disk → KeepsWay (disk.contents first.disk) first.shelf
          → HasEitherWay (way_with_files files (kept_on first).way) (item_for placed) (disk.contents d')
      -- on an initial shelf with nothing pending
      pub on : (initial : InitialShelf) → IsSettledOn initial [] disk first.shelf first.disk
          → HoldsEitherOn disk initial files placed d'
          × LeavesPrefixes disk initial (files ++ placed ∷ []) first.disk d'
