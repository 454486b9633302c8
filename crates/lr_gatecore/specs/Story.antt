-- What the events of a ring make of its jobs.
use Rattle.std.specs.Prelude.{◌≡◌, ℕ, ◌<◌, ◌%◌, ◌==◌, Bool, false, List, [], ◌∷◌, ◌++◌, if◌then◌else◌}
use Rattle.std.specs.List.{range_with_len}
use Rattle.lr_gatecore.specs.declared.event.Event.{Event}
use Rattle.lr_gatecore.specs.declared.event.Event.TheVariants.{Put, Claim, Finish, Take, Stop}
use Rattle.lr_gatecore.specs.declared.ring_size.RingSize.{RingSize}
use Rattle.lr_gatecore.specs.Machine.{Machine, empty_machine, Entry, EventsLead}

abbrev pub log_entry : Event → ℕ → Entry
log_entry event job = record { event = event; job = job }

-- the job that the event takes, if it takes one
abbrev pub job_taken_by : Event → ℕ → List ℕ
job_taken_by Take job = job ∷ []
job_taken_by Put job = []
job_taken_by (Claim worker cell) job = []
job_taken_by (Finish worker) job = []
job_taken_by Stop job = []

-- the jobs taken, in the order in which they were
abbrev pub taken_jobs : List Entry → List ℕ
taken_jobs [] = []
taken_jobs (e ∷ es) = job_taken_by e.event e.job ++ taken_jobs es

-- the entry is about the job i
abbrev pub is_about : Event → ℕ → ℕ → Bool
is_about Stop job i = false
is_about Put job i = i == job
is_about (Claim worker cell) job i = i == job
is_about (Finish worker) job i = i == job
is_about Take job i = i == job

-- what happened to the job i, in order
abbrev pub life_of : ℕ → List Entry → List Event
life_of i [] = []
life_of i (e ∷ es) = if is_about e.event e.job i then e.event ∷ life_of i es else life_of i es

-- the life of a job that was taken: put, claimed by one worker, finished by the same, and taken
abbrev pub IsWholeLife : ℕ → ℕ → List Event → Type 0
IsWholeLife cells i events = (worker : ℕ) × (events ≡ Put ∷ Claim worker (i % cells) ∷ Finish worker ∷ Take ∷ [])

-- over every list of events the jobs taken are 0, 1, 2, .. in order, and each had one claim and one finish
-- between its put and its take
abbrev pub JobsGoInOrder : Type 0
JobsGoInOrder =
    (size : RingSize) (events : List Event) (log : List Entry) (n : Machine)
    → EventsLead size empty_machine events log n
    → (taken_jobs log ≡ range_with_len 0 n.taken)
    × ((i : ℕ) → i < n.taken → IsWholeLife size.cells i (life_of i log))
