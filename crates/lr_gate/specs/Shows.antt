-- The rule of the ring: the table shows a state of the machine at every moment.
use Rattle.std.specs.Prelude.{◌≡◌, ℕ, ◌+◌, ◌%◌, ◌<◌, ◌≤◌, Bool, true, false, cond, ◌&&◌, ◌==◌, List, [], ◌∷◌}
use Rattle.std.specs.Prelude.{length, slice_index_or, Some, None}
use mathlib.Core.Option.{some, none}
use mathlib.Core.Option as maybe
use lib.ListN.{get_elem?}
use Rattle.atomic_table.specs.Table.{State}
use Rattle.lr_gatecore.specs.declared.ring_size.RingSize.{RingSize}
use Rattle.lr_gatecore.specs.declared.stage.Stage.{Stage}
use Rattle.lr_gatecore.specs.declared.stage.Stage.TheVariants.{Ready, Busy, Done}
use Rattle.lr_gatecore.specs.Machine.{Machine}
use Rattle.lr_gatecore.specs.declared.sizes.TheConstants.{MOST_JOBS}
use Rattle.lr_gate.specs.declared.slot_value.SlotValue.{SlotValue}
use Rattle.lr_gate.specs.declared.slot_value.SlotValue.TheVariants.{Empty, Given, Made}
use Rattle.lr_gate.specs.declared.view.Held.{Held}
use Rattle.lr_gate.specs.declared.view.View.{View}
use Rattle.lr_gate.specs.Words.{cell_word, finish_count}

abbrev pub flag : Bool → ℕ
flag b = cond b 1 0

abbrev pub held_job : {J : Type 0} → ℕ → ℕ → J → Held J
held_job c p j = record { cell = c; job = p; what = j }

-- how often a number stands in a list, and in the lists of finished jobs of all seats
abbrev pub count_of : ℕ → List ℕ → ℕ
count_of i [] = 0
count_of i (x ∷ xs) = cond (i == x) 1 0 + count_of i xs

abbrev pub finishes_of : {J : Type 0} → ℕ → List (View J) → ℕ
finishes_of i [] = 0
finishes_of i (v ∷ vs) = count_of i v.finished + finishes_of i vs

abbrev pub IsHeldBy : {J : Type 0} → List (View J) → ℕ → Held J → Type 0
IsHeldBy {J} views w h = (v : View J) × (get_elem? views w ≡ some v) × (v.held ≡ Some h)

-- the conductor's view says that the cell of the job p is being taken
abbrev pub is_being_taken : {J : Type 0} → View J → ℕ → Bool
is_being_taken me p = me.taking && (p == me.taken)

-- A seat's number is its place among the views. It holds a cell with a job only where the job is busy by this seat
pub record IsSeatShown {J : Type 0} (me : View J) (stages : List Stage) (n j : ℕ) (v : View J) : Type 0 where
  pub numbered : v.number ≡ j
  pub holds : (h : Held J) → v.held ≡ Some h
      → (me.taken ≤ h.job) × (h.cell ≡ h.job % n) × (get_elem? stages h.job ≡ some (Busy j))
      × (get_elem? me.jobs h.job ≡ some h.what)

-- a job and the cell in which it lies, by their numbers; in a ring of n cells
pub record JobPlace : Type 0 where
  pub job : ℕ
  pub cell : ℕ

abbrev pub place_in : ℕ → ℕ → JobPlace
place_in n p = record { job = p; cell = p % n }

-- the view of a seat that was joined into another
pub record IsJoinedView {J : Type 0} (v : View J) : Type 0 where
  pub nothing : v.held ≡ None
  pub no_job : v.finished ≡ []
  pub no_read : v.reads ≡ []

-- the size of the machine that a ring of this size shows: its conductor is one worker more
abbrev pub machine_size : RingSize → RingSize
machine_size size = record size { workers = size.workers + 1 }

module _ {J D : Type 0} (gives : J → D) where
  -- where the slot of a job's cell is, by the job's stage: out of the table is `some none`
  abbrev pub Lies : View J → State (SlotValue J D) (View J) → JobPlace → maybe.Option Stage → Type 0
  Lies me s at none = get_elem? s.homes at.cell ≡ some (cond me.stocked none (some Empty))
  Lies me s at (some Ready) =
      (j : J) × (get_elem? me.jobs at.job ≡ some j) × (get_elem? s.homes at.cell ≡ some (some (Given j)))
  Lies me s at (some (Busy w)) =
      (j : J) × (get_elem? me.jobs at.job ≡ some j) × (get_elem? s.homes at.cell ≡ some none)
      × IsHeldBy s.views w (held_job at.cell at.job j)
  Lies me s at (some Done) =
      (j : J) × (get_elem? me.jobs at.job ≡ some j)
      × (get_elem? s.homes at.cell ≡ some (cond (is_being_taken me at.job) none (some (Made (gives j)))))

  pub record IsCellShown (me : View J) (stages : List Stage) (s : State (SlotValue J D) (View J)) (at : JobPlace) : Type
      0 where
    pub word : slice_index_or s.words (at.cell + 1) 0 ≡ cell_word at.job (get_elem? stages at.job)
    pub lies : Lies me s at (get_elem? stages at.job)

  -- The rule of a ring of this size, with its worker seats to come. Of the next jobs, as many as there are cells, one
  -- lies in each cell, which is told by that job's number p: `stages` are those of all jobs put, and a p after them is
  -- a free cell
  pub record Shows (size : RingSize) (s : State (SlotValue J D) (View J)) : Type 0 where
    pub stages : List Stage
    pub me : View J
    pub first : get_elem? s.views 0 ≡ some me
    pub awake : me.spent ≡ false
    pub some_cell : 0 < size.cells
    pub sized : length s.homes ≡ size.cells
    pub wide : length s.words ≡ size.cells + 1
    pub as_many : length stages ≡ length me.jobs
    pub behind : me.taken ≤ length stages
    pub within : length stages ≤ me.taken + size.cells
    pub stop_is : slice_index_or s.words 0 0 ≡ flag me.stopped
    pub taking_is : me.taking ≡ true → get_elem? stages me.taken ≡ some Done
    pub past : (p : ℕ) → p < me.taken → get_elem? stages p ≡ some Done
    pub few : length me.jobs ≤ MOST_JOBS
    pub finishes : (i : ℕ) → finishes_of i s.views ≡ finish_count (get_elem? stages i)
    pub seats : length s.views ≡ me.split_off + 1
    pub crew : me.split_off ≤ size.workers
    pub each_cell : (p : ℕ) → me.taken ≤ p → p < me.taken + size.cells
        → IsCellShown me stages s (place_in size.cells p)
    pub each_seat : (j : ℕ) (v : View J) → get_elem? s.views j ≡ some v → v.spent ≡ false
        → IsSeatShown me stages size.cells j v
    pub each_spent : (j : ℕ) (v : View J) → get_elem? s.views j ≡ some v → v.spent ≡ true → IsJoinedView v

  -- the state of the machine that is shown
  abbrev pub machine_shown : (size : RingSize) (s : State (SlotValue J D) (View J)) → Shows size s → Machine
  machine_shown size s r = record { stages = r.stages; taken = r.me.taken; stopped = r.me.stopped }
