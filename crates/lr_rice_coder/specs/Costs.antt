-- What the search for the shortest option knows on its way. No clause of a public call cites this.
use Rattle.std.specs.Prelude.{◌<◌, ◌≤◌, ◌+◌, ◌-◌, ◌/◌, ◌^◌, ℕ, List, length}
use Rattle.std.specs.List.{sum_by}

-- the sum of the high parts of values that are split by k bits
abbrev pub highs_sum : ℕ → List ℕ → ℕ
highs_sum k values = sum_by (λ value. value / 2 ^ k) values

-- Of the splits by at most `most` bits that by k bits is the first of the shortest: the one by a bit less is longer,
-- and
-- the one by a bit more isn't shorter.
pub record IsShortestSplit (most : ℕ) (values : List ℕ) (k : ℕ) : Type 0 where
  pub inside : k ≤ most
  pub falls : 0 < k → highs_sum k values + length values < highs_sum (k - 1) values
  pub stops : k < most → highs_sum k values ≤ highs_sum (k + 1) values + length values
