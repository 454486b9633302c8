-- What a crash may leave of a disk now, and what it may have left since a moment.
use Rattle.std.specs.Prelude.{List, ℕ}
use Rattle.lr_disk.specs.Disk.{LeavesOnly, Only}
use Rattle.lr_disk.specs.declared.disk.Disk.{Ghosts as DiskOf}

module _ {D : Type 0} (disk : DiskOf D) where
  -- nothing is pending: a crash now leaves the contents, and nothing else
  abbrev pub NothingPending : D → Type 0
  NothingPending d = Only (disk.contents d) (disk.may_leave d)

  -- each image that a crash may have left since the moment of the first disk has P
  abbrev pub EachImageSince : D → D → (List ℕ → Type 0) → Type 0
  EachImageSince d d' P = LeavesOnly disk.moment disk.left_since d d' P
