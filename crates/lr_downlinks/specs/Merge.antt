-- The files of several downlinks, merged: an order names the downlink of each file. `files` gives the files of each
-- downlink by its number.
use Rattle.std.specs.Prelude.{◌≡◌, ◌<◌, ◌≤◌, ◌==◌, ℕ, List, [], ◌∷◌, ◌++◌, count_by, slice_get, Some, All, length}
use Rattle.std.specs.Option.{option_to_list}
use Rattle.lr_bits.specs.declared.placed.Placed.{Placed}

-- how often a downlink stands in an order
abbrev pub times_in_order : ℕ → List ℕ → ℕ
times_in_order downlink order = count_by (λ one. one == downlink) order

-- where some downlinks came before, each further one gives its next file: the one whose place is how often it came
abbrev pub merge_after : (ℕ → List Placed) → List ℕ → List ℕ → List Placed
merge_after files before [] = []
merge_after files before (downlink ∷ order) =
    option_to_list (slice_get (files downlink) (times_in_order downlink before))
    ++ merge_after files (before ++ downlink ∷ []) order

unfoldable pub merge : (ℕ → List Placed) → List ℕ → List Placed
merge files order = merge_after files [] order

module _ (count : ℕ) (files : ℕ → List Placed) (order : List ℕ) where
  -- the order names downlinks that there are, and none more often than it has files
  pub record IsOrder : Type 0 where
    pub known : All (λ downlink. downlink < count) order
    pub few : (downlink : ℕ) → downlink < count → times_in_order downlink order ≤ length (files downlink)

  -- it names each as often as it has files
  abbrev pub IsWhole : Type 0
  IsWhole = (downlink : ℕ) → downlink < count → times_in_order downlink order ≡ length (files downlink)

  -- the next file of this downlink
  pub record IsNextOf (downlink : ℕ) (placed : Placed) : Type 0 where
    pub known : downlink < count
    pub next : slice_get (files downlink) (times_in_order downlink order) ≡ Some placed

  -- this is the least downlink that has a file left, and that is its next one
  pub record IsLeastNext (downlink : ℕ) (placed : Placed) : Type 0 where
    pub next : IsNextOf downlink placed
    pub least : (earlier : ℕ) → earlier < downlink → times_in_order earlier order ≡ length (files earlier)
