-- The room that files take on a shelf.
use Rattle.std.specs.Prelude.{◌≡◌, ◌<◌, ◌≤◌, ◌⊎◌, ℕ, List, [], ◌∷◌, ◌++◌}
use Rattle.std.proofs.Common.{zero, suc}
use Rattle.lr_bits.specs.declared.placed.Placed.{Placed}
use Rattle.lr_shelf_format.specs.Way.{Way}
use Rattle.lr_downlinks.specs.Merge.{IsLeastNext, IsOrder, merge}
use Rattle.lr_shelf.specs.Prefixes.{way_with_files}

-- the files of this many downlinks, one downlink after another
abbrev pub files_of_all : (ℕ → List Placed) → ℕ → List Placed
files_of_all files zero = []
files_of_all files (suc count) = files_of_all files count ++ files count

-- the next file of the least downlink that has one left ends past the capacity, after the files of the order
pub record NextDoesNotFit (count : ℕ) (files : ℕ → List Placed) (order : List ℕ) (way : Way) (placed : Placed)
    : Type 0 where
  pub downlink : ℕ
  pub least : IsLeastNext count files order downlink placed
  pub over : way.capacity < (way_with_files (merge files order ++ placed ∷ []) way).end

-- there is room for all files: there is none of them, or the end of the last one is inside the capacity
abbrev pub AllFit : ℕ → (ℕ → List Placed) → Way → Type 0
AllFit count files way =
    (files_of_all files count ≡ []) ⊎ ((way_with_files (files_of_all files count) way).end ≤ way.capacity)

-- where a next file doesn't fit after those of an order, the files of all downlinks together don't fit
abbrev pub FullWhereAllDoNotFit : Type 0
FullWhereAllDoNotFit =
    (count : ℕ) (files : ℕ → List Placed) (order : List ℕ) (way : Way) (placed : Placed)
    → IsOrder count files order → NextDoesNotFit count files order way placed → AllFit count files way → ⊥
