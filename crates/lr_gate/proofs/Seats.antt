-- One more member keeps a fact of all.
use Rattle.std.proofs.Common.{◌≡◌, ℕ, zero, suc, ◌+◌, ◌<◌, length-append, All, List, [], ◌∷◌, ◌++◌, length, get_or}
use Rattle.std.proofs.Common.{refl, sym, subst, arith}
use Rattle.std.proofs.lemmas.List.Elements.{All-append}

module _ {X : Type 0} (P : X → Type 0) where
  alone : (x : X) → P x → All P (x ∷ [])
  alone x p zero d h = p
  alone x p (suc k) d h = absurd (omega arith)

  pub All-snoc : (xs ys : List X) (x : X) → ys ≡ xs ++ x ∷ [] → All P xs → P x → All P ys
  All-snoc xs ys x e all p = subst (All P) (sym e) (All-append P xs (x ∷ []) all (alone x p))

  last_get : (xs : List X) (x d : X) → get_or (xs ++ x ∷ []) (length xs) d ≡ x
  last_get [] x d = refl
  last_get (y ∷ ys) x d = last_get ys x d

  within : (xs : List X) (x : X) → length xs < length (xs ++ x ∷ [])
  within [] x = omega arith
  within (y ∷ ys) x = let h = within ys x in omega arith

  pub All-last : (xs ys : List X) (x : X) → ys ≡ xs ++ x ∷ [] → All P ys → P x
  All-last xs ys x e all = let f : All P (xs ++ x ∷ []) = subst (All P) e all in
      subst P (last_get xs x x) (f (length xs) x (within xs x))

  front_get : (xs ys : List X) (k : ℕ) (d : X) → k < length xs → get_or (xs ++ ys) k d ≡ get_or xs k d
  front_get [] ys k d h = absurd (omega arith)
  front_get (x ∷ xs) ys zero d h = refl
  front_get (x ∷ xs) ys (suc k) d h = front_get xs ys k d (omega arith)

  pub All-front : (xs ys : List X) (x : X) → ys ≡ xs ++ x ∷ [] → All P ys → All P xs
  All-front xs ys x e all k d h =
      subst P (front_get xs (x ∷ []) k d h) ((subst (All P) e all) k d (let g = within xs x in
      let l : length (xs ++ x ∷ []) ≡ length xs + 1 = length-append xs (x ∷ []) in omega arith))
