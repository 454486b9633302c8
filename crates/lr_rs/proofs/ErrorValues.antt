-- The system of the values at the roots has one solution, the error values, where a codeword lies
-- within sixteen places.
use Rattle.std.proofs.Common.{◌≡◌, ◌≢◌, ℕ, ◌+◌, ◌*◌, ◌<◌, ◌≤◌, List, get_or, sym, ap, ◌∙◌, arith}
use Rattle.std.specs.Int.Bits.{bit_xor, xor_self, xor_lt, xor_zero_r}
use Rattle.lr_gf.specs.Sums.{sum_of}
use Rattle.lr_gf.specs.Field.{times, power, value_of}
use Rattle.lr_gf.specs.Systems.{IsSolution}
use Rattle.lr_gf.proofs.Laws.{commute, times-add-left, times-zero-left}
use Rattle.lr_gf.proofs.SumLaws.{sum_of-same, sum_of-add, same_from_sum, weight-le-all}
use Rattle.lr_gf.proofs.Vanishing.{vanishing}
use Rattle.lr_rs.specs.Words.{locator, word_value, IsCodeword}
use Rattle.lr_rs.proofs.Locators.{locators}
use Rattle.lr_rs.specs.RootLists.{HasEquations, IsRootList}
use Rattle.lr_rs.proofs.Unique.{difference, value_of_difference}
use Rattle.lr_rs.specs.declared.sizes.TheConstants.{CHECK_BYTES, WORD_BYTES}

-- the values of a word are those of its difference to a codeword
pub syndromes_of_difference : (w c : List ℕ) → IsCodeword c → (j : ℕ) → j < CHECK_BYTES
    → word_value w (power 2 (11 * (112 + j))) ≡ sum_of WORD_BYTES
    (λ p. times (difference w c p) (power (locator p) (112 + j)))
syndromes_of_difference w c h j k =
    sym (value_of_difference w c (112 + j)
    ∙ ap (bit_xor (word_value w (power 2 (11 * (112 + j))))) (h.zero_at (112 + j) (omega arith) (omega arith))
    ∙ xor_zero_r (word_value w (power 2 (11 * (112 + j)))))

-- sums over the roots are the values
sums_at_roots : (cs ps : List ℕ) (count j : ℕ) (e s : ℕ → ℕ) → IsRootList cs WORD_BYTES count ps
    → ((p : ℕ) → p < WORD_BYTES → value_of cs (locator p) ≢ 0 → e p ≡ 0)
    → s j ≡ sum_of WORD_BYTES (λ p. times (e p) (power (locator p) (112 + j)))
    → sum_of count (λ l. times (e (get_or ps l 0)) (power (locator (get_or ps l 0)) (112 + j))) ≡ s j
sums_at_roots cs ps count j e s r none is =
    sym (r.sums (λ p. times (e p) (power (locator p) (112 + j)))
    (λ p h ne. ap (λ z. times z (power (locator p) (112 + j))) (none p h ne)
    ∙ times-zero-left (power (locator p) (112 + j))))
    ∙ sym is

-- the error values are a solution
pub error_values_solve : (cs ps : List ℕ) (count : ℕ) (e s : ℕ → ℕ) (m : ℕ → ℕ → ℕ) → count ≤ 16
    → IsRootList cs WORD_BYTES count ps
    → ((p : ℕ) → p < WORD_BYTES → value_of cs (locator p) ≢ 0 → e p ≡ 0)
    → ((j : ℕ) → j < CHECK_BYTES → s j ≡ sum_of WORD_BYTES (λ p. times (e p) (power (locator p) (112 + j))))
    → HasEquations count ps s m → IsSolution count m (λ l. e (get_or ps l 0))
error_values_solve cs ps count e s m few r none is q = record {
  solves = λ j h.
      sum_of-same count (λ l. times (m j l) (e (get_or ps l 0)))
      (λ l. times (e (get_or ps l 0)) (power (locator (get_or ps l 0)) (112 + j)))
      (λ l k. ap (λ z. times z (e (get_or ps l 0))) (q.left j l h k)
      ∙ commute (power (locator (get_or ps l 0)) (112 + j)) (e (get_or ps l 0)))
      ∙ sums_at_roots cs ps count j e s r none (is j (omega arith)) ∙ sym (q.right j h);
}

-- and the only one
pub solution_is_error_values : (cs ps : List ℕ) (count : ℕ) (e s y : ℕ → ℕ) (m : ℕ → ℕ → ℕ) → count ≤ 16
    → IsRootList cs WORD_BYTES count ps
    → ((p : ℕ) → p < WORD_BYTES → value_of cs (locator p) ≢ 0 → e p ≡ 0)
    → ((j : ℕ) → j < CHECK_BYTES → s j ≡ sum_of WORD_BYTES (λ p. times (e p) (power (locator p) (112 + j))))
    → HasEquations count ps s m → ((p : ℕ) → p < WORD_BYTES → e p < 256) → ((l : ℕ) → l < count → y l < 256)
    → IsSolution count m y
    → (l : ℕ) → l < count → y l ≡ e (get_or ps l 0)
solution_is_error_values cs ps count e s y m few r none is q bytes small sol l h =
    same_from_sum (y l) (e (get_or ps l 0))
    (vanishing count count 112 (λ l. bit_xor (y l) (e (get_or ps l 0))) (λ l. locator (get_or ps l 0))
    (record {
      below = λ i k. locators.below (get_or ps i 0) (r.below_limit i k);
      nonzero = λ i k. locators.nonzero (get_or ps i 0) (r.below_limit i k);
      different = λ i j a b u. r.different i j a b
          (locators.different (get_or ps i 0) (get_or ps j 0) (r.below_limit i a) (r.below_limit j b) u);
    })
    (λ i k. xor_lt 8 (y i) (e (get_or ps i 0)) (small i k) (bytes (get_or ps i 0) (r.below_limit i k)))
    (weight-le-all count (λ l. bit_xor (y l) (e (get_or ps l 0))))
    (λ j k.
    sum_of-same count (λ l. times (bit_xor (y l) (e (get_or ps l 0))) (power (locator (get_or ps l 0)) (112 + j)))
    (λ l. bit_xor (times (y l) (power (locator (get_or ps l 0)) (112 + j)))
    (times (e (get_or ps l 0)) (power (locator (get_or ps l 0)) (112 + j))))
    (λ i t. times-add-left (y i) (e (get_or ps i 0)) (power (locator (get_or ps i 0)) (112 + j)))
    ∙ sum_of-add count (λ l. times (y l) (power (locator (get_or ps l 0)) (112 + j)))
    (λ l. times (e (get_or ps l 0)) (power (locator (get_or ps l 0)) (112 + j)))
    ∙ ap (λ z. bit_xor z (sum_of count (λ l. times (e (get_or ps l 0)) (power (locator (get_or ps l 0)) (112 + j)))))
    (sum_of-same count (λ l. times (y l) (power (locator (get_or ps l 0)) (112 + j))) (λ l. times (m j l) (y l))
    (λ i t. commute (y i) (power (locator (get_or ps i 0)) (112 + j)) ∙ ap (λ z. times z (y i)) (sym (q.left j i k t)))
    ∙ sol.solves j k ∙ q.right j k)
    ∙ ap (bit_xor (s j)) (sums_at_roots cs ps count j e s r none (is j (omega arith)))
    ∙ xor_self (s j))
    l h)
