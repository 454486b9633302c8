-- Who works at a ring, before anything is put into it.
use Rattle.std.specs.Prelude.{◌≡◌, ◌<◌, ◌+◌, ◌*◌, ℕ, List, All}
use Rattle.lr_gate.specs.Seats.{cells_of, workers_of, IsConductorOf, IsSeatOf, view_of, opening_view}
use Rattle.lr_gate.specs.declared.gate.Conductor.{Conductor}
use Rattle.lr_gate.specs.declared.gate.Gate.{Gate}
use Rattle.lr_gate.specs.declared.gate.WorkerSeat.{WorkerSeat}

-- how many seats there are beside the caller's, with a worker for each, and how many cells the ring has
pub record PoolView : Type 0 where
  pub seats : ℕ
  pub cells : ℕ

-- two cells for each who works, the caller among them, and two more
abbrev pub pool_with : ℕ → PoolView
pool_with seats = record { seats = seats; cells = 2 * (seats + 1) + 2 }

-- The ring is empty and has the pool's cells. Each of its workers has a seat and a work
pub record IsFreshRing {W J D : Type 0} (gate : Gate W J D) (conductor : Conductor W J D)
    (seats : List (WorkerSeat W J D)) (work_count : ℕ) (pool : PoolView) : Type 0 where
  pub size : cells_of gate ≡ pool.cells
  pub some : 0 < pool.cells
  pub conductor_is : IsConductorOf gate conductor
  pub empty : view_of conductor ≡ opening_view (workers_of gate)
  pub seats_are : All (IsSeatOf gate) seats
  pub as_many : pool.seats ≡ workers_of gate
  pub works_are : work_count ≡ workers_of gate
