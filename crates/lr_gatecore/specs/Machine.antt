-- The machine of a ring of cells, with jobs by number.
use Rattle.std.specs.Prelude.{◌≡◌, ℕ, ◌+◌, ◌-◌, ◌%◌, ◌<◌, ◌≤◌, Bool, true, false, List, [], ◌∷◌, ◌++◌, length}
use Rattle.std.specs.Prelude.{slice_set, ◌⊎◌}
use mathlib.Core.Option.{some}
use lib.ListN.{get_elem?}
use Rattle.lr_gatecore.specs.declared.event.Event.{Event}
use Rattle.lr_gatecore.specs.declared.event.Event.TheVariants.{Put, Claim, Finish, Take, Stop}
use Rattle.lr_gatecore.specs.declared.ring_size.RingSize.{RingSize}
use Rattle.lr_gatecore.specs.declared.stage.Stage.{Stage}
use Rattle.lr_gatecore.specs.declared.stage.Stage.TheVariants.{Ready, Busy, Done}

-- The stages of all jobs put, in their order. The first `taken` of them were taken, and their stage stays Done
pub record Machine : Type 0 where
  pub stages : List Stage
  pub taken : ℕ
  pub stopped : Bool

-- the machine before any event
abbrev pub empty_machine : Machine
empty_machine = record { stages = []; taken = 0; stopped = false }

abbrev pub put_count : Machine → ℕ
put_count m = length m.stages

-- the job i was put and not taken, and has this stage
abbrev pub HasStage : Machine → ℕ → Stage → Type 0
HasStage m i stage = (m.taken ≤ i) × (get_elem? m.stages i ≡ some stage)

-- The moves of a ring of this size: the event leads from m to n, and is about this job.
-- A stop is about no job, and is told with the number of the next one
abbrev pub Moves : RingSize → Machine → Event → ℕ → Machine → Type 0
Moves size m Put job n =
    (put_count m - m.taken < size.cells) × (m.stopped ≡ false) × (job ≡ put_count m)
    × (n ≡ record m { stages = m.stages ++ Ready ∷ [] })
Moves size m (Claim worker cell) job n =
    (worker < size.workers) × (cell < size.cells) × ((i : ℕ) → ¬ HasStage m i (Busy worker))
    × HasStage m job Ready × (job % size.cells ≡ cell)
    × (n ≡ record m { stages = slice_set m.stages job (Busy worker) })
Moves size m (Finish worker) job n =
    HasStage m job (Busy worker) × (n ≡ record m { stages = slice_set m.stages job Done })
Moves size m Take job n =
    HasStage m job Done × (job ≡ m.taken) × (n ≡ record m { taken = m.taken + 1 })
Moves size m Stop job n =
    (m.stopped ≡ false) × (job ≡ put_count m) × (n ≡ record m { stopped = true })

-- the event isn't allowed
abbrev pub IsRefused : RingSize → Machine → Event → Type 0
IsRefused size m event = (job : ℕ) (n : Machine) → ¬ Moves size m event job n

-- A state of the machine: the jobs taken are done, no more jobs were put and not taken than there are cells,
-- and each worker is in range and has one job at most
pub record IsState (size : RingSize) (m : Machine) : Type 0 where
  pub past : (i : ℕ) → i < m.taken → get_elem? m.stages i ≡ some Done
  pub behind : m.taken ≤ put_count m
  pub within : put_count m ≤ m.taken + size.cells
  pub in_range : (i worker : ℕ) → get_elem? m.stages i ≡ some (Busy worker) → worker < size.workers
  pub one_job : (i j worker : ℕ) → get_elem? m.stages i ≡ some (Busy worker)
      → get_elem? m.stages j ≡ some (Busy worker) → i ≡ j

-- the machine begins in a state, and each move leads to one
abbrev pub MovesLeadToStates : Type 0
MovesLeadToStates =
    ((size : RingSize) → IsState size empty_machine)
    × ((size : RingSize) (m : Machine) (event : Event) (job : ℕ) (n : Machine)
    → IsState size m → Moves size m event job n → IsState size n)

-- from a state an event leads to one machine at most, and is about one job
abbrev pub MovesAreOne : Type 0
MovesAreOne =
    (size : RingSize) (m : Machine) (event : Event) (i j : ℕ) (n p : Machine)
    → IsState size m → Moves size m event i n → Moves size m event j p
    → (i ≡ j) × (n ≡ p)

-- one event that moved, and the job that it is about
pub record Entry : Type 0 where
  pub event : Event
  pub job : ℕ

-- A list of events leads from m to n, and these of them moved. A refused event leaves the machine
abbrev pub EventsLead : RingSize → Machine → List Event → List Entry → Machine → Type 0
EventsLead size m [] log n = (log ≡ []) × (n ≡ m)
EventsLead size m (event ∷ events) log n =
    ((job : ℕ) × (next : Machine) × (rest : List Entry) × Moves size m event job next
    × EventsLead size next events rest n × (log ≡ record { event = event; job = job } ∷ rest))
    ⊎ (IsRefused size m event × EventsLead size m events log n)
