-- Whether there is room for files that come onto a way, whatever its records hold.
use Rattle.std.specs.Prelude.{◌≡◌, ◌<◌, ◌-◌, ℕ, min, List, [], ◌∷◌, ◌++◌}
use Rattle.lr_bits.specs.declared.placed.Placed.{Placed}
use Rattle.lr_bits.specs.Sizes.{most_u64}
use Rattle.lr_disk.specs.declared.disk.Disk.{Ghosts as DiskOf}
use Rattle.lr_disk.specs.Pending.{EachImageSince}
use Rattle.lr_shelf_format.specs.Way.{Way}
use Rattle.lr_shelf.specs.Adding.{StaysOutside}
use Rattle.lr_shelf.specs.Prefixes.{HasRoom, end_with}

-- There is room for the first of these files, and the end of the next one passes the capacity. Both numbers are
-- these; an end of more than 64 bits is told as the greatest number of 64 bits.
pub record IsFullWith (way : Way) (needed most : ℕ) (files : List Placed) : Type 0 where
  pub done : List Placed
  pub next : Placed
  pub rest : List Placed
  pub split : files ≡ done ++ next ∷ rest
  pub room : HasRoom way done
  pub over : way.capacity < end_with way.end (done ++ next ∷ [])
  pub needs : needed ≡ min (end_with way.end (done ++ next ∷ [])) most_u64
  pub of : most ≡ way.capacity

-- Of the bytes that had this way those before the last gate stay, and those from the end on that it has with the first
-- ones of these files, for which there is room.
pub record ChangesFor (way : Way) (files : List Placed) (old new : List ℕ) : Type 0 where
  pub first : List Placed
  pub rest : List Placed
  pub split : files ≡ first ++ rest
  pub room : HasRoom way first
  pub outside : StaysOutside (way.end - 1) (end_with way.end first) old new

module _ {D : Type 0} (disk : DiskOf D) where
  -- the same of each image since the moment of d
  abbrev pub ChangesImagesFor : Way → List Placed → D → D → Type 0
  ChangesImagesFor way files d d' = EachImageSince disk d d' (ChangesFor way files (disk.contents d))
