-- The way from gate to gate through the bytes of a shelf, whatever its records hold.
use Rattle.std.specs.Prelude.{◌≡◌, ◌≢◌, ◌<◌, ◌+◌, ℕ, List, [], ◌∷◌, length, drop, map, slice_index}
use Rattle.lr_shelf_format.specs.Header.{first_gate}
use Rattle.lr_shelf_format.specs.Items.{Begins, IsProper, MayFollow, extent_of}
use Rattle.lr_shelf_format.specs.declared.item.ItemHead.{ItemHead}

-- an open gate, and what stands after it
pub record Step : Type 0 where
  pub gate : ℕ
  pub head : ItemHead

-- the gate at this place is open
abbrev pub IsOpen : List ℕ → ℕ → Type 0
IsOpen bytes gate = slice_index bytes gate ≡ 1

-- where the next gate stands
abbrev pub next_gate : Step → ℕ
next_gate step = step.gate + 1 + extent_of step.head

-- The gate is open, the bytes after it begin such an item, and the next gate is inside.
pub record LeadsToNextGate (bytes : List ℕ) (step : Step) : Type 0 where
  pub is_open : IsOpen bytes step.gate
  pub begins : Begins (drop (step.gate + 1) bytes) step.head
  pub inside : next_gate step < length bytes

-- from one gate by these steps to another
abbrev pub IsPath : List ℕ → ℕ → List Step → ℕ → Type 0
IsPath bytes from [] to = from ≡ to
IsPath bytes from (step ∷ steps) to = (step.gate ≡ from) × LeadsToNextGate bytes step
    × IsPath bytes (next_gate step) steps to

abbrev pub heads_of : List Step → List ItemHead
heads_of steps = map (λ (step : Step). step.head) steps

-- the walk: these steps from the first gate on, and then a gate that is closed
pub record IsWalk (bytes : List ℕ) (steps : List Step) (last : ℕ) : Type 0 where
  pub path : IsPath bytes first_gate steps last
  pub proper : IsProper (heads_of steps)
  pub inside : last < length bytes
  pub closed : slice_index bytes last ≢ 1

-- The walk is broken at this place: a way leads to the gate there, which is open, and no step from there keeps the
-- list proper.
pub record IsBrokenAt (bytes : List ℕ) (at : ℕ) : Type 0 where
  pub steps : List Step
  pub path : IsPath bytes first_gate steps at
  pub proper : IsProper (heads_of steps)
  pub is_open : IsOpen bytes at
  pub broken : (head : ItemHead) → LeadsToNextGate bytes (record { gate = at; head = head })
      → MayFollow (heads_of steps) head → ⊥
