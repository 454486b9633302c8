-- The stages of all jobs, as those taken and the window after them.
use Rattle.std.proofs.Common.{◌≡◌, ℕ, zero, suc, ◌+◌, List, ◌∷◌, ◌++◌, set, replicate, refl, ap, arith}
use lib.ListN.{get_elem?}

module _ {A : Type 0} where
  pub past_at : (t k : ℕ) (a : A) (w : List A) → get_elem? (replicate t a ++ w) (t + k) ≡ get_elem? w k
  past_at zero k a w = ap (get_elem? w) (omega arith)
  past_at (suc t) k a w = let e : suc t + k ≡ suc (t + k) = omega arith in rw e (past_at t k a w)

  pub past_set : (t k : ℕ) (a b : A) (w : List A) → set (replicate t a ++ w) (t + k) b ≡ replicate t a ++ set w k b
  past_set zero k a b w = ap (λ z. set w z b) (omega arith)
  past_set (suc t) k a b w = let e : suc t + k ≡ suc (t + k) = omega arith in
      rw e (ap (λ xs. a ∷ xs) (past_set t k a b w))

  pub past_more : (t : ℕ) (a : A) (w : List A) → replicate (t + 1) a ++ w ≡ replicate t a ++ a ∷ w
  past_more zero a w = refl
  past_more (suc t) a w = let e : suc t + 1 ≡ suc (t + 1) = omega arith in rw e (ap (λ xs. a ∷ xs) (past_more t a w))
