-- A number added to all lanes, or taken off them, at any width of lanes.
use Rattle.std.proofs.Common.{arith, ap, ◌∙◌, ◌≡◌, ◌+◌, ◌-◌, ◌<◌, ◌≤◌, ◌^◌, ℕ, List, length, get_or, Fits}
use Rattle.std.proofs.lemmas.Simd.{Each1-from_get_or, Each2-splat, get_or-replicate, get_or-zip2, length-zip2}
use Rattle.std.specs.Prelude.{replicate}
use lib.Lanes.{zip2, Each2}
use mir.Syntax.{Width}
use mir.Val.{bits}

module _ (xs : List ℕ) (size : length xs ≡ 32) (y : ℕ) where
  pub sums_fit : (w : Width) → ((k : ℕ) → k < 32 → get_or xs k 0 + y < 2 ^ bits w) →
      Each2 (λ a b. Fits w (a + b)) xs (replicate 32 y)
  sums_fit w small =
      Each2-splat (λ a b. Fits w (a + b)) xs 32 y
      (Each1-from_get_or (λ x. Fits w (x + y)) xs 0 (λ k l. record { fits = small k (omega arith) }))

  pub sum_size : length (zip2 (λ a b. a + b) xs (replicate 32 y)) ≡ 32
  sum_size = length-zip2 (λ a b. a + b) xs (replicate 32 y) size ∙ size

  pub sum_at : (k : ℕ) → k < 32 → get_or (zip2 (λ a b. a + b) xs (replicate 32 y)) k 0 ≡ get_or xs k 0 + y
  sum_at k l =
      get_or-zip2 (λ a b. a + b) xs (replicate 32 y) k 0 0 0 (omega arith) l
      ∙ ap (λ z. get_or xs k 0 + z) (get_or-replicate 32 k y 0 l)

  pub differences_fit : ((k : ℕ) → k < 32 → y ≤ get_or xs k 0) → Each2 (λ a b. b ≤ a) xs (replicate 32 y)
  differences_fit least =
      Each2-splat (λ a b. b ≤ a) xs 32 y (Each1-from_get_or (λ x. y ≤ x) xs 0 (λ k l. least k (omega arith)))

  pub difference_size : length (zip2 (λ a b. a - b) xs (replicate 32 y)) ≡ 32
  difference_size = length-zip2 (λ a b. a - b) xs (replicate 32 y) size ∙ size

  pub difference_at : (k : ℕ) → k < 32 → get_or (zip2 (λ a b. a - b) xs (replicate 32 y)) k 0 ≡ get_or xs k 0 - y
  difference_at k l =
      get_or-zip2 (λ a b. a - b) xs (replicate 32 y) k 0 0 0 (omega arith) l
      ∙ ap (λ z. get_or xs k 0 - z) (get_or-replicate 32 k y 0 l)
