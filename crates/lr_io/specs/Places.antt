-- Places at which a call stops. A place is a number of bytes moved so far.
use Rattle.std.specs.Prelude.{◌≡◌, ◌<◌, ◌≤◌, ◌+◌, ◌⊎◌, ℕ, List, All, Contains}

-- A call from one place on moves as many bytes as it may, at most this number: all of these, or those up to the next
-- place.
pub record MovesMost (places : List ℕ) (from most count : ℕ) : Type 0 where
  pub within : count ≤ most
  pub stops : All (λ place. from < place → from + count ≤ place) places
  pub farthest : (count ≡ most) ⊎ Contains places (from + count)
