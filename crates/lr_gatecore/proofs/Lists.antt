-- Lists read by `get_elem?`.
use Rattle.std.specs.Bool.{OnTrue, OnFalse}
use Rattle.std.specs.Prelude.{Option, Some, None, is_some, IfSome, IfNone}
use Rattle.std.proofs.Common.{true≢false, Bool, true, false, ◌≡◌, ℕ, zero, suc, ◌<◌, ◌≤◌, ◌≢◌, List, [], ◌∷◌, ◌++◌}
use Rattle.std.proofs.Common.{length, get_or, set, sym, refl, ap, arith}
use mathlib.Core.Option.{some, none, some-injective, some-ne-none}
use lib.ListN.{get_elem?}

module _ {A : Type 0} where
  pub at_index : (l : List A) (i : ℕ) (a : A) → i < length l → a ≡ get_or l i a → get_elem? l i ≡ some a
  at_index [] i a h e = absurd (omega arith)
  at_index (x ∷ xs) zero a h e = ap some (sym e)
  at_index (x ∷ xs) (suc i) a h e = at_index xs i a (omega arith) e

  pub at_above : (l : List A) (j : ℕ) → length l ≤ j → get_elem? l j ≡ none
  at_above [] j h = refl
  at_above (x ∷ xs) zero h = absurd (omega arith)
  at_above (x ∷ xs) (suc j) h = at_above xs j (omega arith)

  pub at_length : (l : List A) (j : ℕ) (a : A) → get_elem? l j ≡ some a → j < length l
  at_length [] j a e = absurd (some-ne-none a (sym e))
  at_length (x ∷ xs) zero a e = omega arith
  at_length (x ∷ xs) (suc j) a e = let k = at_length xs j a e in omega arith

  -- what stands at an index is one value
  pub one_value : (l : List A) (i : ℕ) (a b : A) → get_elem? l i ≡ some a → get_elem? l i ≡ some b → a ≡ b
  one_value [] i a b e f = absurd (some-ne-none a (sym e))
  one_value (x ∷ xs) zero a b e f = some-injective a b (cc)
  one_value (x ∷ xs) (suc i) a b e f = one_value xs i a b e f

  pub set_here : (l : List A) (i : ℕ) (a : A) → i < length l → get_elem? (set l i a) i ≡ some a
  set_here [] i a h = absurd (omega arith)
  set_here (x ∷ xs) zero a h = refl
  set_here (x ∷ xs) (suc i) a h = set_here xs i a (omega arith)

  pub set_else : (l : List A) (i j : ℕ) (a : A) → j ≢ i → get_elem? (set l i a) j ≡ get_elem? l j
  set_else [] i j a n = refl
  set_else (x ∷ xs) zero zero a n = absurd (n refl)
  set_else (x ∷ xs) zero (suc j) a n = refl
  set_else (x ∷ xs) (suc i) zero a n = refl
  set_else (x ∷ xs) (suc i) (suc j) a n = set_else xs i j a (λ e. n (ap suc e))

  pub snoc_else : (l : List A) (a : A) (j : ℕ) → j ≢ length l → get_elem? (l ++ a ∷ []) j ≡ get_elem? l j
  snoc_else [] a zero n = absurd (n refl)
  snoc_else [] a (suc j) n = refl
  snoc_else (x ∷ xs) a zero n = refl
  snoc_else (x ∷ xs) a (suc j) n = snoc_else xs a j (λ e. n (ap suc e))

  pub at_last : (l : List A) (a : A) (n : ℕ) → length l ≡ n → get_elem? (l ++ a ∷ []) n ≡ some a
  at_last [] a zero e = refl
  at_last [] a (suc n) e = absurd (omega arith)
  at_last (x ∷ xs) a zero e = absurd (omega arith)
  at_last (x ∷ xs) a (suc n) e = at_last xs a n (omega arith)

pub on_true : {P Q : Type 0} (b : Bool) → (P → Q) → OnTrue b P → OnTrue b Q
on_true true f p = f p
on_true false f p = tt

pub on_false : {P Q : Type 0} (b : Bool) → (P → Q) → OnFalse b P → OnFalse b Q
on_false true f p = tt
on_false false f p = f p

pub of_some : {A : Type 0} {P : A → Type 0} (o : Option A) → is_some o ≡ true → IfSome o P → (x : A) × P x
of_some (Some x) e p = (x, p)
of_some None e p = absurd (true≢false (sym e))

pub of_none : {A Q : Type 0} (o : Option A) → is_some o ≡ false → IfNone o Q → Q
of_none None e q = q
of_none (Some x) e q = absurd (true≢false e)
