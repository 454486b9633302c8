-- What a stop inside a call of a disk in memory leaves.
use Rattle.std.specs.Prelude.{◌≡◌, ◌⊎◌, ◌+◌, ◌-◌, ◌==◌, ℕ, Some, if◌then◌else◌, List, [], ◌∷◌, ◌++◌, replicate}
use Rattle.std.specs.Prelude.{take, drop, slice_get}
use Rattle.lr_disk.specs.Mem.{Pending, State, torn, cut, after, state_at, IsImage}
use Rattle.lr_disk.specs.declared.past.Call.{Call}
use Rattle.lr_disk.specs.declared.past.Call.TheVariants.{Kept, Wrote, Shortened, Synced}
use Rattle.lr_disk.specs.declared.past.Past.{Past}
use Rattle.lr_disk.specs.declared.mem.MemDisk.{MemDisk}

-- inside a call: what it writes or cuts is pending, and what it syncs is pending still
abbrev pub inside : List ℕ → Call → State → State
inside log Kept s = s
inside log (Wrote at from count) s = after log (Wrote at from count) s
inside log (Shortened n) s = after log (Shortened n) s
inside log Synced s = s

-- the bytes, with 7F from one place to another
abbrev pub filled_between : ℕ → ℕ → List ℕ → List ℕ
filled_between from to bytes = take from bytes ++ (replicate (to - from) 0x7F ++ drop to bytes)

-- the durable bytes, with 7F in each pending range and cut where a cut is pending
abbrev pub with_filler : List ℕ → List Pending → List ℕ
with_filler durable [] = durable
with_filler durable (torn from to ∷ pending) = filled_between from to (with_filler durable pending)
with_filler durable (cut n ∷ pending) = take n (with_filler durable pending)

-- nothing of what is pending, all of it, or 7F wherever any byte may stand
abbrev pub left_of_kind : ℕ → State → List ℕ
left_of_kind kind s = if kind == 0 then s.durable else if kind == 1 then s.contents else with_filler s.durable s.pending

-- the state after the first calls of a disk
abbrev pub state_after_calls : Past → ℕ → State
state_after_calls past made = state_at past.first.items past.log.items past.calls.items made

-- what a stop of that kind inside the call of that number leaves
pub record StopsInside (disk : MemDisk) (number kind : ℕ) (bytes : List ℕ) : Type 0 where
  pub call : Call
  pub there : slice_get disk.past.calls.items number ≡ Some call
  pub left : bytes ≡ left_of_kind kind (inside disk.past.log.items call (state_after_calls disk.past number))

-- a crash image of the call's start or of its return
abbrev pub IsLeftInside : MemDisk → ℕ → List ℕ → Type 0
IsLeftInside disk number bytes = IsImage (state_after_calls disk.past number) bytes
    ⊎ IsImage (state_after_calls disk.past (number + 1)) bytes
