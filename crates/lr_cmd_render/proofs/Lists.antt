-- Lists read by `get_elem?`.
use Rattle.std.proofs.Common.{◌≡◌, ◌<◌, ◌≤◌, ◌+◌, ◌-◌, ℕ, zero, suc, List, [], ◌∷◌, ◌++◌, length, take, drop, get_or}
use Rattle.std.proofs.Common.{refl, sym, ap, ◌∙◌, arith, add-one, drop-cons, slice_index_or, slice_set}
use Rattle.std.proofs.lemmas.List.{length-set, take_all, take_more, take_more_set}
use Rattle.lr_gatecore.proofs.Lists.{at_length}
use mathlib.Core.Option.{some, some-injective, some-ne-none}
use lib.ListN.{get_elem?}

module _ {A : Type 0} where
  value_at : (xs : List A) (n : ℕ) (x : A) → get_elem? xs n ≡ some x → get_or xs n x ≡ x
  value_at [] n x e = refl
  value_at (y ∷ ys) zero x e = some-injective y x e
  value_at (y ∷ ys) (suc n) x e = value_at ys n x e

  -- an element more
  pub take_at : (xs : List A) (n : ℕ) (x : A) → get_elem? xs n ≡ some x → take (n + 1) xs ≡ take n xs ++ x ∷ []
  take_at xs n x e =
      take_more xs n x (at_length xs n x e) ∙ ap (λ (y : A). take n xs ++ y ∷ []) (value_at xs n x e)

  -- an element, and those after it
  pub drop_at : (xs : List A) (n : ℕ) (x : A) → get_elem? xs n ≡ some x → drop n xs ≡ x ∷ drop (n + 1) xs
  drop_at xs n x e =
      drop-cons xs n x (at_length xs n x e) ∙ ap (λ (y : A). y ∷ drop (suc n) xs) (value_at xs n x e)
      ∙ ap (λ (k : ℕ). x ∷ drop k xs) (sym (add-one n))

  pub elem_at : (xs : List A) (n : ℕ) → n < length xs → (x : A) × (get_elem? xs n ≡ some x)
  elem_at [] n h = absurd (omega arith)
  elem_at (y ∷ ys) zero h = (y, refl)
  elem_at (y ∷ ys) (suc n) h = elem_at ys n (omega arith)

  -- it is among the first ones
  pub at_first : (xs : List A) (m n : ℕ) (x : A) → n < m → get_elem? xs n ≡ some x
      → get_elem? (take m xs) n ≡ some x
  at_first [] m n x h e = absurd (some-ne-none x (sym e))
  at_first (y ∷ ys) zero n x h e = absurd (omega arith)
  at_first (y ∷ ys) (suc m) zero x h e = e
  at_first (y ∷ ys) (suc m) (suc n) x h e = at_first ys m n x (omega arith) e

-- lists that begin with one element each are the same in it, and in the rest
pub heads : {A : Type 0} {x y : A} {xs ys : List A} → x ∷ xs ≡ y ∷ ys → x ≡ y
heads e = cc (e)

pub tails : {A : Type 0} {x y : A} {xs ys : List A} → x ∷ xs ≡ y ∷ ys → xs ≡ ys
tails e = cc (e)

-- ---- the last element

module _ {A : Type 0} (xs : List A) (n : ℕ) (count : n ≡ length xs) (some : 0 < n) where
  pub last_is : (x : A) → x ≡ slice_index_or xs (n - 1) x → xs ≡ take (n - 1) xs ++ x ∷ []
  last_is x is =
      let all : length xs ≤ n - 1 + 1 = omega (arith, count, some) in
      sym (take_all (n - 1 + 1) xs all) ∙ take_more xs (n - 1) x (omega (arith, count, some))
      ∙ ap (λ (y : A). take (n - 1) xs ++ y ∷ []) (sym is)

  pub last_set : (y : A) → slice_set xs (n - 1) y ≡ take (n - 1) xs ++ y ∷ []
  last_set y =
      let all : length (slice_set xs (n - 1) y) ≤ n - 1 + 1 =
      omega (arith, count, some, length-set xs (n - 1) y) in
      sym (take_all (n - 1 + 1) (slice_set xs (n - 1) y) all)
      ∙ take_more_set xs (n - 1) y (omega (arith, count, some))
