-- The value of a polynomial as a sum over its coefficients.
use Rattle.std.proofs.Common.{◌≡◌, ℕ, zero, suc, ◌-◌, ◌<◌, List, [], ◌∷◌, length, get_or, sym, ap, ◌∙◌, arith}
use Rattle.std.specs.Int.Bits.{bit_xor, xor_assoc, xor_zero_r}
use Rattle.lr_gf.specs.Sums.{sum_of}
use Rattle.lr_gf.specs.Field.{times, power, value_of}
use Rattle.lr_gf.proofs.Laws.{times-zero-left}
use Rattle.lr_gf.proofs.SumLaws.{sum_of-same, sum_of-zero}

-- a sum from its first value on
sum_of-first : (n : ℕ) (f : ℕ → ℕ) → sum_of (suc n) f ≡ bit_xor (f 0) (sum_of n (λ i. f (suc i)))
unfolding sum_of
sum_of-first zero f = sym (xor_zero_r (f 0))
sum_of-first (suc n) f =
    ap (λ z. bit_xor z (f (suc n))) (sum_of-first n f) ∙ xor_assoc (f 0) (sum_of n (λ i. f (suc i))) (f (suc n))

-- the value of a polynomial as a sum
pub value_as_sum : (cs : List ℕ) (n x : ℕ) → length cs ≡ n
    → value_of cs x ≡ sum_of n (λ k. times (get_or cs k 0) (power x (n - 1 - k)))
unfolding value_of
value_as_sum [] n x h = sym (ap (λ m. sum_of m (λ k. times 0 (power x (n - 1 - k)))) (sym h)
    ∙ sum_of-zero 0 (λ k. times 0 (power x (n - 1 - k))) (λ i k. absurd (omega arith)))
value_as_sum (c ∷ cs) zero x h = absurd (omega arith)
value_as_sum (c ∷ cs) (suc n) x h =
    let long : length cs ≡ n = omega arith in
    let first : length cs ≡ suc n - 1 - 0 = omega arith in
    ap (bit_xor (times c (power x (length cs)))) (value_as_sum cs n x long
    ∙ sum_of-same n (λ k. times (get_or cs k 0) (power x (n - 1 - k)))
    (λ k. times (get_or cs k 0) (power x (suc n - 1 - suc k)))
    (λ k j. let e : n - 1 - k ≡ suc n - 1 - suc k = omega arith in ap (λ m. times (get_or cs k 0) (power x m)) e))
    ∙ ap (λ m. bit_xor (times c (power x m)) (sum_of n (λ k. times (get_or cs k 0) (power x (suc n - 1 - suc k)))))
    first
    ∙ sym (sum_of-first n (λ k. times (get_or (c ∷ cs) k 0) (power x (suc n - 1 - k))))

-- coefficients that are all 0
pub value-zeros : (cs : List ℕ) (n x : ℕ) → length cs ≡ n → ((k : ℕ) → k < n → get_or cs k 0 ≡ 0) → value_of cs x ≡ 0
value-zeros cs n x h z =
    value_as_sum cs n x h
    ∙ sum_of-zero n (λ k. times (get_or cs k 0) (power x (n - 1 - k)))
    (λ k j. ap (λ c. times c (power x (n - 1 - k))) (z k j) ∙ times-zero-left (power x (n - 1 - k)))
