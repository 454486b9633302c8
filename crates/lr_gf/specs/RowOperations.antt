-- What the steps of the elimination do to a matrix; only functions inside the crate speak of it.
use Rattle.std.specs.Prelude.{ℕ, ◌<◌, ◌≤◌, ◌≡◌, ◌==◌, bit_xor, if◌then◌else◌}
use Rattle.lr_gf.specs.Field.{times}
use Rattle.lr_gf.specs.Systems.{AreElements, IsInKernel}

-- the two matrices send the same vectors to 0
pub record IsEquivalent (rows columns : ℕ) (m n : ℕ → ℕ → ℕ) : Type 0 where
  pub to : (x : ℕ → ℕ) → IsInKernel rows columns m x → IsInKernel rows columns n x
  pub from : (x : ℕ → ℕ) → IsInKernel rows columns n x → IsInKernel rows columns m x

-- a row comes to another place, multiplied by a factor
pub record RowMove : Type 0 where
  pub from : ℕ
  pub to : ℕ
  pub factor : ℕ

-- the entries after this move: the row that was there takes the place of the one that moved
abbrev pub moved_row : RowMove → (ℕ → ℕ → ℕ) → ℕ → ℕ → ℕ
moved_row move m i k =
    if i == move.to then times move.factor (m move.from k) else (if i == move.from then m move.to k else m i k)

-- the pivot row is added to each of the other rows as often as makes its entry in the column 0
abbrev pub cleared_column : ℕ → ℕ → (ℕ → ℕ → ℕ) → ℕ → ℕ → ℕ
cleared_column pivot column m i k = if i == pivot then m i k else bit_xor (m i k) (times (m i column) (m pivot k))

-- one column was eliminated: it is the unit column of the row `place`
pub record IsPivotStep (rows place column : ℕ) (m n : ℕ → ℕ → ℕ) : Type 0 where
  pub room : place < rows
  pub unit : (i : ℕ) → i < rows → n i column ≡ (if i == place then 1 else 0)
  pub kept : (k : ℕ) → k < 17 → ((i : ℕ) → place ≤ i → i < rows → m i k ≡ 0) → (i : ℕ) → i < rows → n i k ≡ m i k
  pub same : (columns : ℕ) → columns ≤ 17 → IsEquivalent rows columns m n
  pub elements : AreElements n
