-- Linear systems over the field. A matrix is a function of the row and the column, a vector one of
-- the place.
use Rattle.std.specs.Prelude.{ℕ, ◌<◌, ◌≡◌, ◌≢◌, List, [], slice_index, slice_index_or}
use Rattle.lr_gf.specs.Sums.{sum_of}
use Rattle.lr_gf.specs.Field.{times}

-- the entry in row i and column k
abbrev pub entry : List (List ℕ) → ℕ → ℕ → ℕ
entry rows i k = slice_index (slice_index_or rows i []) k

-- each entry of 16 rows and 17 columns is an element
abbrev pub AreElements : (ℕ → ℕ → ℕ) → Type 0
AreElements m = (i k : ℕ) → i < 16 → k < 17 → m i k < 256

-- the first rows send x to 0, over the first columns
pub record IsInKernel (rows columns : ℕ) (m : ℕ → ℕ → ℕ) (x : ℕ → ℕ) : Type 0 where
  pub sent : (i : ℕ) → i < rows → sum_of columns (λ k. times (m i k) (x k)) ≡ 0

-- one of the first entries of x isn't 0
abbrev pub IsNonzero : ℕ → (ℕ → ℕ) → Type 0
IsNonzero columns x = (k : ℕ) × (k < columns) × (x k ≢ 0)

-- the first rows send only 0 to 0, over the first columns
abbrev pub HasTrivialKernel : ℕ → ℕ → (ℕ → ℕ → ℕ) → Type 0
HasTrivialKernel rows columns m =
    (x : ℕ → ℕ) → ((k : ℕ) → k < columns → x k < 256) → IsInKernel rows columns m x
    → (k : ℕ) → k < columns → x k ≡ 0

-- x solves the n equations in the first n rows, whose right sides stand in column n
pub record IsSolution (n : ℕ) (m : ℕ → ℕ → ℕ) (x : ℕ → ℕ) : Type 0 where
  pub solves : (i : ℕ) → i < n → sum_of n (λ k. times (m i k) (x k)) ≡ m i n
