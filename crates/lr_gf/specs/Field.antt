-- The field GF(2^8) of CCSDS 131.0-B, section 4: bit polynomials of degree below 8, multiplied
-- modulo x^8 + x^7 + x^2 + x + 1. A number stands for the polynomial whose coefficient of x^i is
-- its bit i.
use Rattle.std.specs.Prelude.{ℕ, zero, suc, ◌+◌, ◌*◌, ◌^◌, ◌%◌, bit_xor, List, [], ◌∷◌, length}
use Rattle.std.specs.Int.{bit_at}
use Rattle.lr_gf.specs.Sums.{sum_of}

-- the carry-less product of the polynomials of degree below 8 in the lowest eight bits
unfoldable pub product : ℕ → ℕ → ℕ
product a b = sum_of 8 (λ i. bit_at b i * (a % 256 * 2 ^ i))

-- the remainder of a polynomial of degree below n + 8: from the highest down, a coefficient of x^(8
-- + k) that isn't 0 is taken away by the modulus times x^k
unfoldable pub remainder : ℕ → ℕ → ℕ
remainder zero p = p
remainder (suc k) p = remainder k (bit_xor p (bit_at p (8 + k) * (0x187 * 2 ^ k)))

-- the product of two elements
unfoldable pub times : ℕ → ℕ → ℕ
times a b = remainder 7 (product a b)

-- a to the n-th power
unfoldable pub power : ℕ → ℕ → ℕ
power a zero = 1
power a (suc n) = times (power a n) a

-- the value of a polynomial at x; its coefficients are given from the highest power down
unfoldable pub value_of : List ℕ → ℕ → ℕ
value_of [] x = 0
value_of (c ∷ cs) x = bit_xor (times c (power x (length cs))) (value_of cs x)
