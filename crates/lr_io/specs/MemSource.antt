-- A source in memory: what it has moved, what is left, where its pieces end, and the places at which a call has yet to
-- fail.
use Rattle.std.specs.Prelude.{◌≡◌, ◌<◌, ◌≤◌, ◌+◌, ℕ, List, ◌++◌, drop, All, Contains, Result, Ok, Err}
use Rattle.lr_bits.specs.declared.refusals.Failed.{Failed}
use Rattle.lr_io.specs.declared.source.MemSource.{MemSource}

-- how many bytes it has moved
abbrev pub bytes_moved : MemSource → ℕ
bytes_moved s = s.at

-- the bytes that are left
abbrev pub left_of : MemSource → List ℕ
left_of s = drop s.at s.bytes.items

-- the places at which a piece ends
abbrev pub cut_places : MemSource → List ℕ
cut_places s = s.cuts.items

-- the places at which one call has yet to fail
abbrev pub failing_places : MemSource → List ℕ
failing_places s = s.failing.items

-- the places that no call passes
abbrev pub stopping_places : MemSource → List ℕ
stopping_places s = cut_places s ++ failing_places s

-- how often it has failed
abbrev pub faults_of : MemSource → ℕ
faults_of s = s.faults

-- it keeps its bytes and where its pieces end
pub record IsOnSame (before now : MemSource) : Type 0 where
  pub bytes : now.bytes.items ≡ before.bytes.items
  pub cuts : cut_places now ≡ cut_places before

-- one call moved this many bytes, and passed no place
pub record MovesOnce (count : ℕ) (before now : MemSource) : Type 0 where
  pub same : IsOnSame before now
  pub same_failing : failing_places now ≡ failing_places before
  pub moved : bytes_moved now ≡ bytes_moved before + count
  pub stops : All (λ place. bytes_moved before < place → bytes_moved now ≤ place) (stopping_places before)

-- one call failed, at a place that was stated
pub record FailsOnce (before now : MemSource) : Type 0 where
  pub same : IsOnSame before now
  pub stated : Contains (failing_places before) (bytes_moved before)
  pub stays : bytes_moved now ≡ bytes_moved before

-- one call may give this answer, and make the second of the first
abbrev pub MayAnswer : MemSource → Result ℕ Failed → MemSource → Type 0
MayAnswer before (Ok count) now = MovesOnce count before now
MayAnswer before (Err failed) now = FailsOnce before now
