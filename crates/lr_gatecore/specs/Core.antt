-- What a `GateCore` is seen as, and what its steps tell.
use Rattle.std.specs.Prelude.{◌≡◌, ℕ, ◌+◌, ◌<◌, ◌≤◌, ◌++◌, Bool, true, false, List, length, replicate}
use Rattle.lr_gatecore.specs.declared.event.Event.{Event}
use Rattle.lr_gatecore.specs.declared.ring_size.RingSize.{RingSize}
use Rattle.lr_gatecore.specs.declared.stage.Stage.{Stage}
use Rattle.lr_gatecore.specs.declared.stage.Stage.TheVariants.{Done}
use Rattle.lr_gatecore.specs.Machine.{Machine, Moves, IsRefused, IsState}
use Rattle.lr_gatecore.specs.declared.sizes.TheConstants.{MOST_CELLS, MOST_JOBS}

-- how large the ring is, and its machine
pub record Core : Type 0 where
  pub size : RingSize
  pub machine : Machine

-- the core's machine is in a state
abbrev pub IsCore : Core → Type 0
IsCore core = IsState core.size core.machine

abbrev pub SameSize : Core → Core → Type 0
SameSize old new = new.size ≡ old.size

-- the step made the move, or the event isn't allowed and nothing changed
abbrev pub MachineSteps : RingSize → Machine → Event → Bool → Machine → Type 0
MachineSteps size m event true n = (job : ℕ) × Moves size m event job n
MachineSteps size m event false n = IsRefused size m event × (n ≡ m)

abbrev pub Steps : Core → Event → Bool → Core → Type 0
Steps old event moved new = MachineSteps old.size old.machine event moved new.machine

-- the machine of which this many jobs were taken, and the jobs put after them have these stages
abbrev pub machine_of : ℕ → List Stage → Bool → Machine
machine_of taken window stopped = record { stages = replicate taken Done ++ window; taken = taken; stopped = stopped }

-- what a core keeps true of its fields; `capacity` is that of its window
pub record IsKept (size : RingSize) (taken : ℕ) (stopped : Bool) (window : List Stage) (capacity : ℕ) : Type 0 where
  pub some_cell : 0 < size.cells
  pub most_cells : size.cells ≤ MOST_CELLS
  pub fits : length window ≤ size.cells
  pub room : size.cells ≤ capacity
  pub few : taken + length window ≤ MOST_JOBS
  pub state : IsState size (machine_of taken window stopped)
