-- What files come onto, and what stands there with them.
use Rattle.std.specs.Prelude.{◌≡◌, ◌⊎◌, ◌≤◌, ◌-◌, ◌++◌, ◌∷◌, ℕ, false, All, List, [], length, map, take}
use Rattle.std.specs.List.{flat_map}
use Rattle.lr_bits.specs.declared.placed.Placed.{Placed}
use Rattle.lr_disk.specs.declared.disk.Disk.{Ghosts as DiskOf}
use Rattle.lr_disk.specs.Pending.{EachImageSince, NothingPending}
use Rattle.lr_shelf_format.specs.Items.{IsItem, Item}
use Rattle.lr_shelf_format.specs.ShelfBytes.{StandsForShelf}
use Rattle.lr_shelf_format.specs.Way.{IsWay, Way, way_of}
use Rattle.lr_shelf.specs.Append.{item_for}
use Rattle.lr_shelf.specs.Prefixes.{HasRoom, gated_file, way_with_files}
use Rattle.lr_shelf.specs.Kept.{kept_by}
use Rattle.lr_shelf.specs.declared.shelf.Shelf.{Shelf}

-- what is there before any file: bytes, and the way that they have, whatever their records hold
pub record InitialShelf : Type 0 where
  pub way : Way
  pub bytes : List ℕ

abbrev pub initial_shelf : Way → List ℕ → InitialShelf
initial_shelf way bytes = record { way = way; bytes = bytes }

-- The bytes stand for what was there, and for these files after it: they have its way with the items of these files at
-- its end, for which there is room. What stands before the last gate are the bytes that stood before the last gate of
-- the way, as they were, and then the files, each after an open gate.
pub record StandsWith (initial : InitialShelf) (files : List Placed) (bytes : List ℕ) : Type 0 where
  pub is_way : IsWay bytes (way_with_files files initial.way)
  pub room : HasRoom initial.way files
  pub each : All IsItem (map item_for files)
  pub front : take ((way_with_files files initial.way).end - 1) bytes
      ≡ take (initial.way.end - 1) initial.bytes ++ flat_map gated_file files

-- the bytes stand for what was there and the files that are done, or for one more too
abbrev pub StandsWithEither : InitialShelf → List Placed → Placed → List ℕ → Type 0
StandsWithEither initial done placed bytes =
    StandsWith initial done bytes ⊎ StandsWith initial (done ++ placed ∷ []) bytes

-- the bytes stand for what was there and a prefix of these files, of n of them at least
pub record StandsForPrefix (initial : InitialShelf) (files : List Placed) (n : ℕ) (bytes : List ℕ) : Type 0 where
  pub first : List Placed
  pub rest : List Placed
  pub split : files ≡ first ++ rest
  pub enough : n ≤ length first
  pub stands : StandsWith initial first bytes

module _ (initial : InitialShelf) (files : List Placed) where
  -- the shelf in memory keeps the way with these files, and works
  pub record KeepsOn (shelf : Shelf) : Type 0 where
    pub way : (kept_by shelf).way ≡ way_with_files files initial.way
    pub working : (kept_by shelf).failed ≡ false

  module _ {D : Type 0} (disk : DiskOf D) where
    -- the contents, and the one crash image, stand for what was there and these files
    pub record HoldsStill (d : D) : Type 0 where
      pub stands : StandsWith initial files (disk.contents d)
      pub durable : NothingPending disk d

    -- so does the shelf in memory, and the disk tells its contents
    pub record IsSettledOn (shelf : Shelf) (d : D) : Type 0 where
      pub told : disk.tells d
      pub kept : KeepsOn shelf
      pub on_disk : HoldsStill d

module _ {D : Type 0} (disk : DiskOf D) (initial : InitialShelf) where
  -- each image since the moment of d stands for what was there and a prefix of these files
  abbrev pub LeavesPrefixes : List Placed → D → D → Type 0
  LeavesPrefixes files d d' = EachImageSince disk d d' (StandsForPrefix initial files 0)

  -- the contents and each crash image stand for what was there and a prefix of these files, of n of them at least
  pub record HoldsPrefix (files : List Placed) (n : ℕ) (d : D) : Type 0 where
    pub contents : StandsForPrefix initial files n (disk.contents d)
    pub images : (c : List ℕ) → disk.may_leave d c → StandsForPrefix initial files n c

  -- they stand for what was there and the files that are done, or for one more too
  pub record HoldsEitherOn (done : List Placed) (placed : Placed) (d : D) : Type 0 where
    pub contents : StandsWithEither initial done placed (disk.contents d)
    pub images : (c : List ℕ) → disk.may_leave d c → StandsWithEither initial done placed c

-- ---- a law

-- the items, and after them the Add items of these files
abbrev pub with_files : List Item → List Placed → List Item
with_files items files = items ++ map item_for files

-- the bytes of a shelf of these items, as what is there before any file
abbrev pub shelf_before : ℕ → List Item → List ℕ → InitialShelf
shelf_before capacity items bytes = initial_shelf (way_of capacity items) bytes

-- Bytes that stood for a shelf, and stand for what was there and some files, stand for a shelf of the same capacity, of
-- its items and of the files. And bytes of a shelf stand for it and no file.
pub record FilesComeOntoShelves : Type 0 where
  pub none : (capacity : ℕ) (items : List Item) (bytes : List ℕ) → StandsForShelf bytes capacity items
      → StandsWith (shelf_before capacity items bytes) [] bytes
  pub some : (capacity : ℕ) (items : List Item) (old bytes : List ℕ) (files : List Placed)
      → StandsForShelf old capacity items → StandsWith (shelf_before capacity items old) files bytes
      → StandsForShelf bytes capacity (with_files items files)
