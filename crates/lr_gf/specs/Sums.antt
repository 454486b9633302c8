-- Sums of elements: the sum of two bit polynomials is the exclusive or of their bits.
use Rattle.std.specs.Prelude.{ℕ, zero, suc, ◌+◌, ◌==◌, bit_xor, if◌then◌else◌}

-- f 0 + .. + f (n - 1)
unfoldable pub sum_of : ℕ → (ℕ → ℕ) → ℕ
sum_of zero f = 0
sum_of (suc n) f = bit_xor (sum_of n f) (f n)

-- how many of f 0, .., f (n - 1) aren't 0
unfoldable pub weight : ℕ → (ℕ → ℕ) → ℕ
weight zero f = 0
weight (suc n) f = weight n f + (if f n == 0 then 0 else 1)
