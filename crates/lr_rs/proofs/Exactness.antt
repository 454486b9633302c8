-- Where a codeword lies within sixteen places of a word: what each step of restoring finds.
use Rattle.std.proofs.Common.{◌≡◌, ◌≢◌, ℕ, zero, suc, refl, ◌+◌, ◌-◌, ◌*◌, ◌<◌, ◌≤◌, List, [], ◌∷◌, length, get_or}
use Rattle.std.proofs.Common.{slice_index, sym, ap, ◌∙◌, arith, inl, inr}
use Rattle.std.specs.Int.Bits.{bit_xor, xor_lt}
use Rattle.std.proofs.lemmas.Bool.{cases_eq}
use Rattle.lr_gf.specs.Dual.{conventional_of}
use Rattle.lr_gf.specs.Field.{times, power, value_of}
use Rattle.lr_gf.specs.Sums.{sum_of}
use Rattle.lr_gf.specs.Systems.{IsInKernel, IsSolution}
use Rattle.lr_gf.proofs.Laws.{below}
use Rattle.lr_gf.proofs.SumLaws.{sum_of-same}
use Rattle.lr_gf.proofs.Elimination.{if_same}
use Rattle.lr_gf.proofs.DualLaws.{conventional-lt}
use Rattle.lr_rs.specs.Words.{locator, word_value, distance, IsRestored, IsWord}
use Rattle.lr_rs.specs.RootLists.{HasEquations, IsRootList}
use Rattle.lr_rs.proofs.Unique.{difference, weight-distance}
use Rattle.lr_rs.proofs.KeyEquation.{error_is_root}
use Rattle.lr_rs.proofs.ErrorValues.{syndromes_of_difference, error_values_solve, solution_is_error_values}
use Rattle.lr_rs.proofs.Correcting.{corrected_is}
use Rattle.lr_rs.specs.declared.sizes.TheConstants.{CHECK_BYTES, WORD_BYTES}

value-lt : (cs : List ℕ) (x : ℕ) → value_of cs x < 256
unfolding value_of
value-lt [] x = omega arith
value-lt (c ∷ cs) x = xor_lt 8 (times c (power x (length cs))) (value_of cs x) (below c (power x (length cs)))
    (value-lt cs x)

difference-lt : (a b : List ℕ) (p : ℕ) → difference a b p < 256
difference-lt a b p = xor_lt 8 (conventional_of (slice_index a p)) (conventional_of (slice_index b p))
    (conventional-lt (slice_index a p)) (conventional-lt (slice_index b p))

-- what the code knows when it has the roots
pub record Found (w cs ps : List ℕ) (count : ℕ) (s : ℕ → ℕ) (key : ℕ → ℕ → ℕ) : Type 0 where
  pub values : (j : ℕ) → j < CHECK_BYTES → s j ≡ word_value w (power 2 (11 * (112 + j)))
  pub filled : (i k : ℕ) → i < 16 → k < 17 → key i k ≡ s (i + (16 - k))
  pub kernel : IsInKernel 16 17 key (slice_index cs)
  pub long : length cs ≡ 17
  pub list : IsRootList cs WORD_BYTES count ps
  pub few : count ≤ 16

module _ {w c cs ps : List ℕ} {count : ℕ} {s : ℕ → ℕ} {key : ℕ → ℕ → ℕ} (f : Found w cs ps count s key)
    (r : IsRestored w c) where
  differences : (j : ℕ) → j < CHECK_BYTES → s j ≡ sum_of WORD_BYTES (λ p. times (difference w c p)
      (power (locator p) (112 + j)))
  differences j k = f.values j k ∙ syndromes_of_difference w c r.is_codeword j k

  off_roots : (p : ℕ) → p < WORD_BYTES → value_of cs (locator p) ≢ 0 → difference w c p ≡ 0
  off_roots p h ne =
      elim (cases_eq (difference w c p) 0) [
        | inl e ↦ e
        | inr differs ↦ absurd (ne (error_is_root cs (difference w c) s f.long (λ q k. value-lt cs (locator q))
            (λ q k. difference-lt w c q) (omega (arith, weight-distance WORD_BYTES w c, r.near)) differences
            (λ i hi.
            sum_of-same 17 (λ k. times (s (i + (16 - k))) (get_or cs k 0)) (λ k. times (key i k) (get_or cs k 0))
            (λ k hk. ap (λ z. times z (get_or cs k 0)) (sym (f.filled i k hi hk)))
            ∙ f.kernel.sent i hi)
            p h differs))
      ]

  module _ {m : ℕ → ℕ → ℕ} (q : HasEquations count ps s m) where
    pub there_is_a_solution : IsSolution count m (λ l. difference w c (get_or ps l 0))
    there_is_a_solution = error_values_solve cs ps count (difference w c) s m f.few f.list off_roots differences q

    pub it_is_the_codeword : (ys fixed : List ℕ) → IsSolution count m (slice_index ys)
        → ((k : ℕ) → slice_index ys k < 256) → IsWord fixed
        → ((l : ℕ) → l < count → conventional_of (slice_index fixed (slice_index ps l))
        ≡ bit_xor (conventional_of (slice_index w (slice_index ps l))) (slice_index ys l))
        → ((p : ℕ) → ((l : ℕ) → l < count → slice_index ps l ≢ p) → slice_index fixed p ≡ slice_index w p)
        → fixed ≡ c
    it_is_the_codeword ys fixed sol small word changed kept =
        corrected_is w fixed c cs ps count (slice_index ys) word r.is_word f.list off_roots
        (solution_is_error_values cs ps count (difference w c) s (slice_index ys) m f.few f.list off_roots differences q
        (λ p k. difference-lt w c p) (λ l k. small l) sol)
        changed kept

-- a word doesn't differ from itself
pub distance-self : (n : ℕ) (a : List ℕ) → distance n a a ≡ 0
unfolding distance
distance-self zero a = refl
distance-self (suc n) a = omega (arith, distance-self n a, if_same {X = ℕ} (slice_index a n) (slice_index a n) 0 1 refl)
