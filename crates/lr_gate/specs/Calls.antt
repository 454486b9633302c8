-- What the calls keep of the seats, and what a round over the cells makes of one.
use Rattle.std.specs.Prelude.{◌≡◌, ◌≢◌, ℕ, ◌≤◌, ◌<◌, ◌%◌, ◌++◌, ◌∷◌, [], Bool, true, false, length}
use Rattle.std.specs.Prelude.{List, None}
use mathlib.Core.Option.{some}
use lib.ListN.{get_elem?}
use Rattle.atomic_table.specs.Seated.{TableId}
use Rattle.atomic_table.specs.declared.shared.Seat.{Seat}
use Rattle.lr_gatecore.specs.declared.sizes.TheConstants.{MOST_SEATS}
use Rattle.lr_gate.specs.declared.round.CellRange.{CellRange}
use Rattle.lr_gate.specs.declared.slot_value.SlotValue.{SlotValue}
use Rattle.lr_gate.specs.declared.view.View.{View}
use Rattle.lr_gate.specs.declared.view.Read.{Read}
use Rattle.lr_gate.specs.Shows.{count_of}
use Rattle.lr_gate.specs.Steps.{SeatState}
use Rattle.lr_gate.specs.Reads.{IsPassedOver, ClaimsJob}

-- a worker's seat between two turns
pub record IsWorker {J D : Type 0} (z : TableId) (seat : Seat (SlotValue J D) (View J)) (number : ℕ) : Type 0 where
  pub table : seat.table_id ≡ z
  pub number_is : seat.me.0.number ≡ number
  pub low : number < MOST_SEATS
  pub live : seat.me.0.spent ≡ false
  pub free : seat.me.0.held ≡ None
  pub empty : seat.me.1 ≡ []

-- a seat that may claim a cell
pub record MayClaim {J D : Type 0} (z : TableId) (seat : Seat (SlotValue J D) (View J)) (number : ℕ) : Type 0 where
  pub table : seat.table_id ≡ z
  pub number_is : seat.me.0.number ≡ number
  pub low : number < MOST_SEATS
  pub live : seat.me.0.spent ≡ false
  pub free : seat.me.0.held ≡ None

module _ {J : Type 0} where
  -- a view with more reads, and one with a finished job more as well
  abbrev pub with_reads : View J → List Read → View J
  with_reads v reads = record v { reads = v.reads ++ reads }

  abbrev pub after_work : View J → List Read → ℕ → View J
  after_work v reads p = record v { finished = v.finished ++ p ∷ []; reads = v.reads ++ reads }

  abbrev pub IsAlone : View J → Type 0
  IsAlone v = (v.split_off ≡ 0) × (v.number ≡ 0)

  -- the job is in the view's list of finished jobs
  abbrev pub HasFinished : View J → ℕ → Type 0
  HasFinished v p = count_of p v.finished ≢ 0

module _ {J D : Type 0} where
  -- One ready cell was claimed, and its job finished. The seat holds what it held before
  abbrev pub Works : ℕ → SeatState J D → SeatState J D → Type 0
  Works n old new =
      (p : ℕ) × (reads : List Read) × (new ≡ (after_work old.0 reads p, old.1)) × ClaimsJob reads n p
      × (count_of p old.0.finished ≡ 0)
      × (old.0.number ≡ 0 → (j : J) × (old.0.taken ≤ p) × (get_elem? old.0.jobs p ≡ some j))

  -- a visit worked, or passed over this cell
  abbrev pub Visits : ℕ → ℕ → SeatState J D → SeatState J D → Bool → Type 0
  Visits n cell old new true = Works n old new
  Visits n cell old new false =
      (reads : List Read) × (new ≡ (with_reads old.0 reads, old.1)) × IsPassedOver reads cell
      × (IsAlone old.0
      → ((p : ℕ) → old.0.taken ≤ p → p < length old.0.jobs → p % n ≡ cell → HasFinished old.0 p)
      × ((p : ℕ) → p < old.0.taken → HasFinished old.0 p))

  -- one of these cells was worked in, or each was passed over
  abbrev pub GoesBetween : ℕ → CellRange → SeatState J D → SeatState J D → Bool → Type 0
  GoesBetween n cells old new true = Works n old new
  GoesBetween n cells old new false =
      (reads : List Read) × (new ≡ (with_reads old.0 reads, old.1))
      × ((c : ℕ) → cells.from ≤ c → c < cells.to → IsPassedOver reads c)
      × (IsAlone old.0
      → ((p : ℕ) → old.0.taken ≤ p → p < length old.0.jobs → cells.from ≤ p % n → p % n < cells.to
      → HasFinished old.0 p)
      × (cells.from < cells.to → (p : ℕ) → p < old.0.taken → HasFinished old.0 p))

  -- a round worked, or passed over every cell
  abbrev pub GoesRound : ℕ → SeatState J D → SeatState J D → Bool → Type 0
  GoesRound n old new true = Works n old new
  GoesRound n old new false =
      (reads : List Read) × (new ≡ (with_reads old.0 reads, old.1)) × ((c : ℕ) → c < n → IsPassedOver reads c)
      × (IsAlone old.0 → (p : ℕ) → p < length old.0.jobs → HasFinished old.0 p)
