-- A combination of geometric rows with different nodes, at most t of whose coefficients aren't 0,
-- and that is 0 at t neighbouring exponents: all its coefficients are 0.
use Rattle.std.proofs.Common.{◌≡◌, ◌≢◌, ℕ, zero, suc, ◌+◌, ◌<◌, ◌≤◌, sym, ap, ◌∙◌, subst, arith, inl, inr}
use Rattle.std.specs.Int.Bits.{bit_xor, xor_self, xor_lt}
use Rattle.std.proofs.lemmas.Bool.{cases_eq}
use Rattle.lr_gf.specs.Sums.{sum_of, weight}
use Rattle.lr_gf.specs.Field.{times, power}
use Rattle.lr_gf.proofs.Laws.{times-lt, times-comm, times-assoc, times-add-left, times-add-right, times-zero-left}
use Rattle.lr_gf.proofs.Laws.{times-zero-right, linear-times-right}
use Rattle.lr_gf.proofs.Powers.{power-lt, times-nonzero}
use Rattle.lr_gf.proofs.SumLaws.{sum_of-same, sum_of-add, sum_of-linear, sum_of-one, same_from_sum, weight-none}
use Rattle.lr_gf.proofs.SumLaws.{weight-less}

-- n different elements that aren't 0
pub record AreNodes (n : ℕ) (x : ℕ → ℕ) : Type 0 where
  pub below : (i : ℕ) → i < n → x i < 256
  pub nonzero : (i : ℕ) → i < n → x i ≢ 0
  pub different : (i j : ℕ) → i < n → j < n → x i ≡ x j → i ≡ j

pub power-nonzero : (a n : ℕ) → a < 256 → a ≢ 0 → power a n ≢ 0
unfolding power
power-nonzero a zero h ne e = cc
power-nonzero a (suc n) h ne e = ne (times-nonzero (power a n) a (power-lt a n h) h (power-nonzero a n h ne) e)

-- y (x + p) w = y (w x) + p (y w)
step : (y x p w : ℕ) → y < 256 → x < 256 → p < 256 → w < 256
    → times (times y (bit_xor x p)) w ≡ bit_xor (times y (times w x)) (times p (times y w))
step y x p w hy hx hp hw =
    ap (λ z. times z w) (times-add-right y x p) ∙ times-add-left (times y x) (times y p) w
    ∙ ap (λ z. bit_xor z (times (times y p) w)) (times-assoc y x w hy hx hw ∙ ap (times y) (times-comm x w hx hw))
    ∙ ap (bit_xor (times y (times w x))) (ap (λ z. times z w) (times-comm y p hy hp) ∙ times-assoc p y w hp hy hw)

-- what is left of the sums where each coefficient is multiplied by the difference of its node to
-- the p-th
shifted : (n a j p : ℕ) (y x : ℕ → ℕ) → AreNodes n x → ((i : ℕ) → i < n → y i < 256) → p < n
    → sum_of n (λ i. times (y i) (power (x i) (a + j))) ≡ 0 → sum_of n (λ i. times (y i) (power (x i) (a + suc j))) ≡ 0
    → sum_of n (λ i. times (times (y i) (bit_xor (x i) (x p))) (power (x i) (a + j))) ≡ 0
unfolding power
shifted n a j p y x nodes small h e f =
    let k : a + suc j ≡ suc (a + j) = omega arith in
    let f' : sum_of n (λ i. times (y i) (times (power (x i) (a + j)) (x i))) ≡ 0 =
    subst (λ (m : ℕ). sum_of n (λ i. times (y i) (power (x i) m)) ≡ 0) k f in
    sum_of-same n (λ i. times (times (y i) (bit_xor (x i) (x p))) (power (x i) (a + j)))
    (λ i. bit_xor (times (y i) (times (power (x i) (a + j)) (x i))) (times (x p) (times (y i) (power (x i) (a + j)))))
    (λ i l. step (y i) (x i) (x p) (power (x i) (a + j)) (small i l) (nodes.below i l) (nodes.below p h)
    (power-lt (x i) (a + j) (nodes.below i l)))
    ∙ sum_of-add n (λ i. times (y i) (times (power (x i) (a + j)) (x i)))
    (λ i. times (x p) (times (y i) (power (x i) (a + j))))
    ∙ ap (λ z. bit_xor z (sum_of n (λ i. times (x p) (times (y i) (power (x i) (a + j)))))) f'
    ∙ sum_of-linear n (times (x p)) (λ i. times (y i) (power (x i) (a + j))) (linear-times-right (x p))
    ∙ ap (times (x p)) e ∙ times-zero-right (x p)

pub vanishing : (t n a : ℕ) (y x : ℕ → ℕ) → AreNodes n x → ((i : ℕ) → i < n → y i < 256) → weight n y ≤ t
    → ((j : ℕ) → j < t → sum_of n (λ i. times (y i) (power (x i) (a + j))) ≡ 0) → (i : ℕ) → i < n → y i ≡ 0
vanishing zero n a y x nodes small few zeros i h = weight-none n y (omega arith) i h
vanishing (suc t) n a y x nodes small few zeros p h =
    elim (cases_eq (y p) 0) [
      | inl e ↦ e
      | inr ne ↦
          let gone : times (y p) (bit_xor (x p) (x p)) ≡ 0 = ap (times (y p)) (xor_self (x p))
          ∙ times-zero-right (y p) in
          let small' : (i : ℕ) → i < n → times (y i) (bit_xor (x i) (x p)) < 256 =
          λ i k. times-lt (y i) (bit_xor (x i) (x p)) (small i k)
          (xor_lt 8 (x i) (x p) (nodes.below i k) (nodes.below p h)) in
          let fewer : weight n (λ i. times (y i) (bit_xor (x i) (x p))) + 1 ≤ weight n y =
          weight-less n p y (λ i. times (y i) (bit_xor (x i) (x p))) h ne gone
          (λ i k e. ap (λ z. times z (bit_xor (x i) (x p))) e ∙ times-zero-left (bit_xor (x i) (x p))) in
          let others : (i : ℕ) → i < n → times (y i) (bit_xor (x i) (x p)) ≡ 0 =
          vanishing t n a (λ i. times (y i) (bit_xor (x i) (x p))) x nodes small' (omega (arith, fewer))
          (λ j k. shifted n a j p y x nodes small h (zeros j (omega arith)) (zeros (suc j) (omega arith))) in
          let lone : (i : ℕ) → i < n → i ≢ p → y i ≡ 0 =
          λ i k d. times-nonzero (bit_xor (x i) (x p)) (y i)
          (xor_lt 8 (x i) (x p) (nodes.below i k) (nodes.below p h)) (small i k)
          (λ z. d (nodes.different i p k h (same_from_sum (x i) (x p) z)))
          (times-comm (bit_xor (x i) (x p)) (y i) (xor_lt 8 (x i) (x p) (nodes.below i k) (nodes.below p h))
          (small i k) ∙ others i k) in
          let last : times (y p) (power (x p) (a + 0)) ≡ 0 =
          sym (sum_of-one n p (λ i. times (y i) (power (x i) (a + 0))) h
          (λ i k d. ap (λ z. times z (power (x i) (a + 0))) (lone i k d) ∙ times-zero-left (power (x i) (a + 0))))
          ∙ zeros 0 (omega arith) in
          times-nonzero (power (x p) (a + 0)) (y p) (power-lt (x p) (a + 0) (nodes.below p h)) (small p h)
          (power-nonzero (x p) (a + 0) (nodes.below p h) (nodes.nonzero p h))
          (times-comm (power (x p) (a + 0)) (y p) (power-lt (x p) (a + 0) (nodes.below p h)) (small p h) ∙ last)
    ]
