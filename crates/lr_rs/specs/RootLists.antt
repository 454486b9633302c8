-- The search for the roots of the error locator polynomial; only functions inside the crate speak
-- of it.
use Rattle.std.specs.Prelude.{ℕ, ◌+◌, ◌<◌, ◌≡◌, ◌≢◌, List, [], ◌∷◌, slice_index}
use Rattle.lr_gf.specs.Sums.{sum_of, weight}
use Rattle.lr_gf.specs.Field.{power, value_of}
use Rattle.lr_rs.specs.Words.{locator}

-- α^(-11 (16 - k)): from a place's locator to the next, the term of x^(16 - k) is multiplied by it
unfoldable pub term_factor : ℕ → ℕ
term_factor k =
    slice_index
    (0x26 ∷ 0x8F ∷ 0x0C ∷ 0x47 ∷ 0x93 ∷ 0xBF ∷ 0x97 ∷ 0x82
    ∷ 0xE6 ∷ 0x6A ∷ 0x16 ∷ 0x14 ∷ 0xC9 ∷ 0x32 ∷ 0x46 ∷ 0x3E ∷ []) k

-- the list of the first places whose locators are roots: how many they are, and that a sum over the
-- places is one over the roots
pub record IsRootList (cs : List ℕ) (limit count : ℕ) (ps : List ℕ) : Type 0 where
  pub many : count + weight limit (λ p. value_of cs (locator p)) ≡ limit
  pub below_limit : (l : ℕ) → l < count → slice_index ps l < limit
  pub sums : (g : ℕ → ℕ) → ((p : ℕ) → p < limit → value_of cs (locator p) ≢ 0 → g p ≡ 0)
      → sum_of limit g ≡ sum_of count (λ l. g (slice_index ps l))
  pub different : (l r : ℕ) → l < count → r < count → slice_index ps l ≡ slice_index ps r → l ≡ r
  pub roots : (l : ℕ) → l < count → value_of cs (locator (slice_index ps l)) ≡ 0
  pub covers : (p : ℕ) → p < limit → value_of cs (locator p) ≡ 0
      → (l : ℕ) × (l < count) × (slice_index ps l ≡ p)

-- the equations of the error values: row j has the (112 + j)-th powers of the roots, and syndrome j
-- as its right side
pub record HasEquations (count : ℕ) (ps : List ℕ) (s : ℕ → ℕ) (m : ℕ → ℕ → ℕ) : Type 0 where
  pub left : (j l : ℕ) → j < count → l < count
      → m j l ≡ power (locator (slice_index ps l)) (112 + j)
  pub right : (j : ℕ) → j < count → m j count ≡ s j
