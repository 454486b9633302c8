-- What the seats of a ring show to their callers, and what each call makes of it.
use Rattle.std.specs.Prelude.{◌≡◌, ◌≢◌, ℕ, ◌+◌, ◌-◌, ◌%◌, ◌<◌, ◌≤◌, ◌∷◌, [], Bool, true, false, length, List, None, ◌⊎◌}
use mathlib.Core.Option.{some}
use lib.ListN.{get_elem?}
use Rattle.atomic_table.specs.Seated.{TableId}
use Rattle.lr_gatecore.specs.declared.sizes.TheConstants.{MOST_JOBS}
use Rattle.lr_gate.specs.declared.gate.Gate.{Gate}
use Rattle.lr_gate.specs.declared.gate.Conductor.{Conductor}
use Rattle.lr_gate.specs.declared.gate.WorkerSeat.{WorkerSeat}
use Rattle.lr_gate.specs.declared.gate.Turn.{Turn}
use Rattle.lr_gate.specs.declared.gate.Turn.TheVariants.{Did, Nothing, Stopped}
use Rattle.lr_gate.specs.declared.view.View.{View}
use Rattle.lr_gate.specs.declared.view.Read.{Read}
use Rattle.lr_gate.specs.Steps.{read, new_view, free_cells}
use Rattle.lr_gate.specs.Reads.{IsPassedOver, ClaimsJob}
use Rattle.lr_gate.specs.Calls.{IsWorker, with_reads, after_work, HasFinished}

-- the conductor is the one of this gate, and this many seats were split off
pub record IsConductorWith {W J D : Type 0} (gate : Gate W J D) (crew : ℕ) (c : Conductor W J D) : Type 0 where
  pub table : c.seat.table_id ≡ gate.table.shared.table_id
  pub id : c.seat.id ≡ 0
  pub number : c.seat.me.0.number ≡ 0
  pub live : c.seat.me.0.spent ≡ false
  pub free : c.seat.me.0.held ≡ None
  pub put_is : c.put ≡ length c.seat.me.0.jobs
  pub taken_is : c.taken ≡ c.seat.me.0.taken
  pub behind : c.taken ≤ c.put
  pub within : c.put ≤ c.taken + gate.cells
  pub few : c.put ≤ MOST_JOBS
  pub stocked : c.seat.me.0.stocked ≡ true
  pub resting : c.seat.me.0.taking ≡ false
  pub crew_is : c.seat.me.0.split_off ≡ crew
  -- it holds the slots of the free cells, that of the next job first
  pub frees : c.seat.me.1 ≡ free_cells gate.cells c.put (c.taken + gate.cells - c.put)

module _ {W J D : Type 0} where
  -- how many cells the gate has, and with how many worker seats it was built
  abbrev pub cells_of : Gate W J D → ℕ
  cells_of gate = gate.cells

  abbrev pub workers_of : Gate W J D → ℕ
  workers_of gate = gate.workers

  -- what the conductor knows
  abbrev pub view_of : Conductor W J D → View J
  view_of c = c.seat.me.0

  -- what a worker's seat knows
  abbrev pub seat_view : WorkerSeat W J D → View J
  seat_view s = s.seat.me.0

  abbrev pub IsConductorOf : Gate W J D → Conductor W J D → Type 0
  IsConductorOf gate c = IsConductorWith gate gate.workers c

  -- which table a gate has, and in which one a worker's seat is
  abbrev pub table_of : Gate W J D → TableId
  table_of gate = gate.table.shared.table_id

  abbrev pub seat_table : WorkerSeat W J D → TableId
  seat_table s = s.seat.table_id

  abbrev pub IsSeatIn : TableId → WorkerSeat W J D → Type 0
  IsSeatIn table s = IsWorker table s.seat s.number

  -- the worker's seat is one of this gate
  abbrev pub IsSeatOf : Gate W J D → WorkerSeat W J D → Type 0
  IsSeatOf gate s = IsSeatIn (table_of gate) s

  -- the seat finished and read nothing yet
  abbrev pub IsNewSeat : WorkerSeat W J D → Type 0
  IsNewSeat s = seat_view s ≡ new_view (seat_view s).number

module _ {J : Type 0} where
  abbrev pub jobs_put : View J → ℕ
  jobs_put v = length v.jobs

  -- how many jobs were put and not taken
  abbrev pub waiting_count : View J → ℕ
  waiting_count v = jobs_put v - v.taken

  -- the conductor's view when its gate was built
  abbrev pub opening_view : ℕ → View J
  opening_view workers = record (new_view 0) { stocked = true; split_off = workers }

  -- Nothing was taken: the ring is empty, and nothing was loaded; or the oldest cell's word was loaded, and wasn't done
  abbrev pub TakesNothing : ℕ → View J → View J → Type 0
  TakesNothing n old new =
      ((jobs_put old ≡ old.taken) × (new ≡ old))
      ⊎ ((found : ℕ) × (old.taken < jobs_put old)
      × (new ≡ with_reads old (read (old.taken % n + 1) None found ∷ [])) × (found % 4 ≢ 2))

  -- the oldest job's result was taken
  abbrev pub TakesOldest : {D : Type 0} → (J → D) → ℕ → View J → View J → D → Type 0
  TakesOldest gives n old new done =
      (j : J) × (get_elem? old.jobs old.taken ≡ some j) × (done ≡ gives j)
      × ((found : ℕ)
      × (new ≡ record (with_reads old (read (old.taken % n + 1) None found ∷ [])) { taken = old.taken + 1 }))

  -- One ready cell was claimed, and its job finished; or every cell was passed over
  abbrev pub Helps : ℕ → View J → View J → Bool → Type 0
  Helps n old new true =
      (p : ℕ) × (reads : List Read) × (new ≡ after_work old reads p) × ClaimsJob reads n p × ¬ HasFinished old p
      × ((j : J) × (old.taken ≤ p) × (get_elem? old.jobs p ≡ some j))
  Helps n old new false =
      (reads : List Read) × (new ≡ with_reads old reads) × ((c : ℕ) → c < n → IsPassedOver reads c)

  -- a worker's turn did a job, or passed over every cell; or the stop word was loaded in it, and was set
  abbrev pub Turns : ℕ → View J → View J → Turn → Type 0
  Turns n old new Did =
      (p : ℕ) × (reads : List Read) × (new ≡ after_work old reads p) × ClaimsJob reads n p × ¬ HasFinished old p
  Turns n old new Nothing =
      (reads : List Read) × (new ≡ with_reads old reads) × ((c : ℕ) → c < n → IsPassedOver reads c)
  Turns n old new Stopped = (found : ℕ) × (new ≡ with_reads old (read 0 None found ∷ [])) × (found ≢ 0)

  -- some job was put and isn't finished, by the list of the one seat
  abbrev pub SomeUnfinished : View J → Type 0
  SomeUnfinished v = (p : ℕ) × (p < jobs_put v) × ¬ HasFinished v p

  -- the ring is empty, or its oldest job isn't finished, by the list of the one seat
  abbrev pub OldestWaits : View J → Type 0
  OldestWaits v = (jobs_put v ≡ v.taken) ⊎ (¬ HasFinished v v.taken)
