-- How far `receive` has come in what comes of its input. No clause of a public call cites this.
use Rattle.std.specs.Prelude.{◌≡◌, ◌==◌, ◌≤◌, ℕ, not, List, [], ◌++◌, length}
use Rattle.lr_layers.specs.Standing.{MendingLayersStandFor, numbers}
use Rattle.lr_causes.specs.Outside.{Outlets, OutletsOf, outlets}
use Rattle.lr_causes.specs.declared.cause.Cause.{Cause}
use Rattle.lr_reading.specs.Arrivals.{outcomes_of_arrivals}
use Rattle.lr_reading.specs.declared.arrival.Arrival.{Arrival}
use Rattle.lr_cmd_receive.specs.Noted.{NotedFile, noted_of_outcomes}
use Rattle.lr_cmd_receive.specs.declared.shelver.Shelver.{Shelver}
use Rattle.lr_cmd_receive.specs.Shelved.{HasShelved, ShelfIn, ShelvesSoFar, StopsShelving, shelf_in}
use Rattle.lr_cmd_receive.specs.Shelving.{AreAcknowledged}
use Rattle.lr_shelf.specs.InitialShelves.{InitialShelf}

-- the layers, the shelf, the disk and `out` are those that it had
pub record HasSameParts {D O : Type 0} (before now : Shelver D O) : Type 0 where
  pub same_layers : now.layers.ghost_name ≡ before.layers.ghost_name
  pub same_shelf : now.shelf.ghost_name ≡ before.shelf.ghost_name
  pub same_disk : now.disk.ghost_name ≡ before.disk.ghost_name
  pub same_out : now.out.ghost_name ≡ before.out.ghost_name

-- the disk and `out` that it has at some moment
abbrev pub lent_to : {D O : Type 0} → Shelver D O → Outlets D O
lent_to shelver = outlets shelver.disk.now shelver.out.now

-- and its shelf
abbrev pub shelf_of : {D O : Type 0} → Shelver D O → ShelfIn (Outlets D O)
shelf_of shelver = shelf_in shelver.shelf.now (lent_to shelver)

-- how many fillers an image may have
abbrev pub mend_of : {D O : Type 0} → Shelver D O → ℕ
mend_of shelver = shelver.layers.now.files.images.most

-- the files of what arrived
abbrev pub files_of_arrivals : ℕ → List Arrival → List NotedFile
files_of_arrivals mend arrivals = noted_of_outcomes mend (outcomes_of_arrivals arrivals)

module _ {D O : Type 0} (world : OutletsOf D O) where
  -- the files of these outcomes were shelved, and what the layers counted is known
  pub record ShelverTook (before : Shelver D O) (arrivals : List Arrival)
      (now : Shelver D O) : Type 0 where
    pub on_same : HasSameParts before now
    pub stands : MendingLayersStandFor (mend_of before) now.layers.now (outcomes_of_arrivals arrivals)
    pub counted : numbers now.counts ≡ now.layers.now.numbers
    pub mends : now.mends ≡ not (mend_of now == 0)
    pub shelved : HasShelved world (files_of_arrivals (mend_of before) arrivals) (shelf_of before) (shelf_of now)

  -- they were not all shelved
  pub record ShelverStopped (before : Shelver D O) (arrivals : List Arrival)
      (cause : Cause) (now : Shelver D O) : Type 0 where
    pub on_same : HasSameParts before now
    pub stopped : StopsShelving world cause (files_of_arrivals (mend_of before) arrivals) (shelf_of before)
        (lent_to now)
    -- but those of all arrivals save perhaps the last one are acknowledged
    pub worked : List Arrival
    pub late : List Arrival
    pub split : arrivals ≡ worked ++ late
    pub one : length late ≤ 1
    pub keeps : (initial : InitialShelf) (start : Outlets D O)
        → ShelvesSoFar world initial [] start (shelf_of before)
        → AreAcknowledged world initial (files_of_arrivals (mend_of before) arrivals)
        (files_of_arrivals (mend_of before) worked) start (lent_to now)
