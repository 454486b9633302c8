-- What the rule says, cell by cell.
use Rattle.std.specs.Prelude.{◌≡◌, ◌≢◌, ◌↔◌, ℕ, ◌+◌, ◌*◌, ◌%◌, ◌<◌, ◌≤◌, true, false, length, slice_index_or, Some}
use mathlib.Core.Option.{some, none}
use lib.ListN.{get_elem?}
use Rattle.atomic_table.specs.Table.{State}
use Rattle.lr_gatecore.specs.declared.ring_size.RingSize.{RingSize}
use Rattle.lr_gatecore.specs.declared.stage.Stage.{Stage}
use Rattle.lr_gatecore.specs.declared.stage.Stage.TheVariants.{Ready, Busy, Done}
use Rattle.lr_gatecore.specs.Machine.{Machine, IsState, HasStage, put_count}
use Rattle.lr_gatecore.specs.declared.sizes.TheConstants.{WORD_BASE}
use Rattle.lr_gate.specs.declared.slot_value.SlotValue.{SlotValue}
use Rattle.lr_gate.specs.declared.slot_value.SlotValue.TheVariants.{Given, Made}
use Rattle.lr_gate.specs.declared.view.Held.{Held}
use Rattle.lr_gate.specs.declared.view.View.{View}
use Rattle.lr_gate.specs.Words.{stage_code}
use Rattle.lr_gate.specs.Shows.{flag, held_job, finishes_of, IsHeldBy, IsJoinedView, Shows, machine_size, machine_shown}

module _ {J D : Type 0} (gives : J → D) where
  -- In a ring of this size the table s shows the machine m, of which `me` is the conductor's view
  pub record ShowsMachine (size : RingSize) (s : State (SlotValue J D) (View J)) (m : Machine) (me : View J) : Type
      0 where
    pub state : IsState (machine_size size) m
    pub conductor : get_elem? s.views 0 ≡ some me
    pub put_is : put_count m ≡ length me.jobs
    pub taken_is : m.taken ≡ me.taken
    pub stopped_is : m.stopped ≡ me.stopped
    pub stop_word : slice_index_or s.words 0 0 ≡ flag m.stopped
    -- a cell's word is free exactly where no job lies in it, and else tells the job and its stage
    pub free : (c : ℕ) → c < size.cells
        → (slice_index_or s.words (c + 1) 0 ≡ 0) ↔ ((i : ℕ) → m.taken ≤ i → i < put_count m → i % size.cells ≢ c)
    pub told : (i : ℕ) (stage : Stage) → HasStage m i stage
        → slice_index_or s.words (i % size.cells + 1) 0 ≡ i * WORD_BASE + stage_code stage
    -- the slot of a free cell is out, once the conductor picked all cells up
    pub free_slot : me.stocked ≡ true → (c : ℕ) → c < size.cells → slice_index_or s.words (c + 1) 0 ≡ 0
        → get_elem? s.homes c ≡ some none
    -- that of a ready one is at home, and holds the job
    pub ready_slot : (i : ℕ) → HasStage m i Ready
        → (j : J) × (get_elem? me.jobs i ≡ some j) × (get_elem? s.homes (i % size.cells) ≡ some (some (Given j)))
    -- that of a busy one is out, and the seat of its worker holds the cell with the job
    pub busy_slot : (i w : ℕ) → HasStage m i (Busy w)
        → (j : J) × (get_elem? me.jobs i ≡ some j) × (get_elem? s.homes (i % size.cells) ≡ some none)
        × IsHeldBy s.views w (held_job (i % size.cells) i j)
    -- a seat holds a cell with a job only so, and no two seats hold the same job
    pub holds : (w : ℕ) (v : View J) (h : Held J) → get_elem? s.views w ≡ some v → v.held ≡ Some h
        → HasStage m h.job (Busy w) × (h.cell ≡ h.job % size.cells)
    pub one_holder : (w u : ℕ) (v x : View J) (h k : Held J) → get_elem? s.views w ≡ some v
        → get_elem? s.views u ≡ some x → v.held ≡ Some h → x.held ≡ Some k → h.job ≡ k.job → w ≡ u
    -- that of a done one is at home, and holds what the job gives, unless it is being taken
    pub done_slot : (i : ℕ) → HasStage m i Done → ¬ ((me.taking ≡ true) × (i ≡ m.taken))
        → (j : J) × (get_elem? me.jobs i ≡ some j) × (get_elem? s.homes (i % size.cells) ≡ some (some (Made (gives j))))
    -- only the oldest job is being taken, and only where it is done; its slot is out
    pub taking : me.taking ≡ true → HasStage m m.taken Done × (get_elem? s.homes (m.taken % size.cells) ≡ some none)
    -- each job that is done or taken stands once in the lists of finished jobs, and no other does
    pub finished : (i : ℕ) → get_elem? m.stages i ≡ some Done → finishes_of i s.views ≡ 1
    pub unfinished : (i : ℕ) → get_elem? m.stages i ≢ some Done → finishes_of i s.views ≡ 0
    -- the seats are numbered in the order in which they were split off, and a joined one has nothing
    pub numbers : (w : ℕ) (v : View J) → get_elem? s.views w ≡ some v → v.spent ≡ false → v.number ≡ w
    pub seats : length s.views ≡ me.split_off + 1
    pub most_seats : me.split_off ≤ size.workers
    pub spent : (w : ℕ) (v : View J) → get_elem? s.views w ≡ some v → v.spent ≡ true → IsJoinedView v

  -- the rule shows the machine at every moment
  abbrev pub AlwaysShowsMachine : Type 0
  AlwaysShowsMachine =
      (size : RingSize) (s : State (SlotValue J D) (View J)) (r : Shows gives size s)
      → ShowsMachine size s (machine_shown gives size s r) r.me

  -- Tables with the same words, of which as many jobs were taken, show the same machine. So a table shows one
  -- machine, and a step that changes no word and takes no job is no move
  abbrev pub WordsTellMachine : Type 0
  WordsTellMachine =
      (size : RingSize) (s t : State (SlotValue J D) (View J)) (r : Shows gives size s) (q : Shows gives size t)
      → t.words ≡ s.words → q.me.taken ≡ r.me.taken
      → machine_shown gives size t q ≡ machine_shown gives size s r
