-- Lists read by `get_elem?`, and cells of one turn.
use Rattle.std.proofs.Common.{◌≡◌, ℕ, zero, suc, ◌+◌, ◌-◌, ◌*◌, ◌%◌, ◌∙◌, subst, ◌<◌, ◌≤◌, ◌≢◌, List, [], ◌∷◌, ◌++◌}
use Rattle.std.proofs.Common.{length, sym, refl, ap, arith, lt_of_not-le, ◌⊎◌, inl, inr, ⊎_elim, Bool, true, false}
use Rattle.std.proofs.Common.{true≢false, Option, Some, None, set, cond, ◌==◌}
use mathlib.Core.Option.{some, some-ne-none, some-injective}
use native.Mathlib.Decide.{dec_le}
use lib.ListN.{get_elem?}
use Rattle.std.proofs.Math.Nat.{mul-add-mod_self_right, add-mod_right}
use Rattle.atomic_table.specs.Table.{rest}
use Rattle.lr_gatecore.specs.declared.sizes.TheConstants.{MOST_SEATS, WORD_BASE}
use Rattle.lr_gate.specs.declared.slot_value.SlotValue.{SlotValue}
use Rattle.lr_gate.specs.declared.slot_value.SlotValue.TheVariants.{Empty, Given, Made}
use Rattle.lr_gate.specs.Shows.{count_of, finishes_of}
use Rattle.lr_gate.specs.Steps.{free_cells}
use Rattle.lr_gate.specs.declared.view.View.{View}
use Rattle.atomic_table.proofs.Lists.{one_turn}

module _ {A : Type 0} where
  pub at_below : (l : List A) (j : ℕ) → j < length l → (a : A) × (get_elem? l j ≡ some a)
  at_below [] j h = absurd (omega arith)
  at_below (x ∷ xs) zero h = (x, refl)
  at_below (x ∷ xs) (suc j) h = at_below xs j (omega arith)

  pub at_end : (l : List A) (a b : A) (j : ℕ) → get_elem? (l ++ a ∷ []) j ≡ some b → (get_elem? l j ≡ some b)
      ⊎ ((j ≡ length l) × (a ≡ b))
  at_end [] a b zero e = inr (refl, some-injective a b e)
  at_end [] a b (suc j) e = absurd (some-ne-none b (sym e))
  at_end (x ∷ xs) a b zero e = inl e
  at_end (x ∷ xs) a b (suc j) e = ⊎_elim inl (λ t. inr (ap suc t.0, t.1)) (at_end xs a b j e)

  is_some : Option A → Bool
  is_some (Some x) = true
  is_some None = false

  pub none_not_some : (x : A) → None ≡ Some x → ⊥
  unfolding is_some
  none_not_some x e = true≢false (sym (ap is_some e))

two_cells : (p q n : ℕ) → p < q + n → q < p + n → q ≢ p → q % n ≡ p % n → Dec (p ≤ q) → ⊥
two_cells p q n a b ne e (yes le) = ne (sym (one_turn p q n le b (sym e)))
two_cells p q n a b ne e (no g) = let l = lt_of_not-le g in ne (one_turn q p n (omega arith) a e)

-- two jobs less than n apart lie in two cells
pub other_cell : (p q n : ℕ) → p < q + n → q < p + n → q ≢ p → q % n ≢ p % n
other_cell p q n a b ne e = two_cells p q n a b ne e (dec_le p q)

-- the tag of a word
pub tag_of : (p c : ℕ) → (p * WORD_BASE + c) % 4 ≡ c % 4
tag_of p c = ap (λ (z : ℕ). (z + c) % 4) (let e : p * WORD_BASE ≡ p * MOST_SEATS * 4 = omega arith in
    e) ∙ mul-add-mod_self_right (p * MOST_SEATS) 4 c

module _ {J D : Type 0} where
  rest_free_at : (k p t m : ℕ) → m ≡ suc (t + k - (p + 1))
      → rest (free_cells {J = J} {D = D} k p m) ≡ free_cells k (p + 1) (t + k - (p + 1))
  rest_free_at k p t m e =
      subst (λ (z : ℕ). rest (free_cells {J = J} {D = D} k p z) ≡ free_cells k (p + 1) (t + k - (p + 1))) (sym e) refl

  -- a put uses the first free cell
  pub rest_free : (k p t : ℕ) → p < t + k → rest (free_cells {J = J} {D = D} k p (t + k - p)) ≡ free_cells k
      (p + 1) (t + k - (p + 1))
  rest_free k p t lt = rest_free_at k p t (t + k - p) (omega arith)

  pub free_snoc_at : (k p m : ℕ) → free_cells {J = J} {D = D} k p m ++ ((p + m) % k, Empty) ∷ [] ≡ free_cells k p
      (suc m)
  free_snoc_at k p zero = ap (λ (z : ℕ). (z % k, Empty) ∷ []) (let e : p + 0 ≡ p = omega arith in e)
  free_snoc_at k p (suc m) =
      ap (λ (xs : List (ℕ × SlotValue J D)). (p % k, Empty) ∷ xs)
      (ap (λ (z : ℕ). free_cells {J = J} {D = D} k (p + 1) m ++ (z % k, Empty) ∷ [])
      (let e : p + suc m ≡ p + 1 + m = omega arith in e) ∙ free_snoc_at k (p + 1) m)

  -- a take adds the last one
  pub free_snoc : (k p t : ℕ) → t ≤ p → p ≤ t + k
      → free_cells {J = J} {D = D} k p (t + k - p) ++ (t % k, Empty) ∷ [] ≡ free_cells k p (t + 1 + k - p)
  free_snoc k p t a b = ap (λ (z : ℕ). free_cells {J = J} {D = D} k p (t + k - p) ++ (z, Empty) ∷ [])
      (sym (ap (λ (z : ℕ). z % k) (let e : p + (t + k - p) ≡ t + k = omega arith in e) ∙ add-mod_right t k))
      ∙ (free_snoc_at k p (t + k - p)
      ∙ ap (free_cells {J = J} {D = D} k p) (let e : suc (t + k - p) ≡ t + 1 + k - p = omega arith in e))

pub count_end : (i : ℕ) (l : List ℕ) (p : ℕ) → count_of i (l ++ p ∷ []) ≡ count_of i l + cond (i == p) 1 0
count_end i [] p = let e : cond (i == p) 1 0 + 0 ≡ 0 + cond (i == p) 1 0 = omega arith in e
count_end i (x ∷ xs) p = let e = count_end i xs p in omega (arith, e)

value : {A : Type 0} → A → Option A → A
value x (Some y) = y
value x None = x

pub inside : {A : Type 0} (x y : A) → Some x ≡ Some y → x ≡ y
unfolding value
inside x y e = ap (value x) e

module _ {J : Type 0} where
  -- a view with the same finished jobs changes no count
  pub same_finishes : (i : ℕ) (vs : List (View J)) (k : ℕ) (v v' : View J) → get_elem? vs k ≡ some v
      → v'.finished ≡ v.finished → finishes_of i (set vs k v') ≡ finishes_of i vs
  same_finishes i [] k v v' at e = absurd (some-ne-none v (sym at))
  same_finishes i (x ∷ xs) zero v v' at e =
      ap (λ (l : List ℕ). count_of i l + finishes_of i xs)
      (e ∙ ap (λ (y : View J). y.finished) (sym (some-injective x v at)))
  same_finishes i (x ∷ xs) (suc k) v v' at e =
      ap (λ (z : ℕ). count_of i x.finished + z) (same_finishes i xs k v v' at e)

  -- one job more is finished
  pub one_more : (i p : ℕ) (vs : List (View J)) (k : ℕ) (v v' : View J) → get_elem? vs k ≡ some v
      → v'.finished ≡ v.finished ++ p ∷ [] → finishes_of i (set vs k v') ≡ finishes_of i vs + cond (i == p) 1 0
  one_more i p [] k v v' at e = absurd (some-ne-none v (sym at))
  one_more i p (x ∷ xs) zero v v' at e = let h : count_of i v'.finished ≡ count_of i x.finished + cond
      (i == p) 1 0 = ap (count_of i)
      (e ∙ ap (λ (y : View J). y.finished ++ p ∷ []) (sym (some-injective x v at))) ∙ count_end i x.finished p in
      omega (arith, h)
  one_more i p (x ∷ xs) (suc k) v v' at e = let h = one_more i p xs k v v' at e in omega (arith, h)

  pub finishes_end : (i : ℕ) (vs : List (View J)) (v : View J) → v.finished ≡ []
      → finishes_of i (vs ++ v ∷ []) ≡ finishes_of i vs
  finishes_end i [] v e = let h : count_of i v.finished ≡ 0 = ap (count_of i) e in omega (arith, h)
  finishes_end i (x ∷ xs) v e = ap (λ (z : ℕ). count_of i x.finished + z) (finishes_end i xs v e)

module _ {J D : Type 0} where
  abbrev given_or : J → SlotValue J D → J
  given_or j (Given x) = x
  given_or j Empty = j
  given_or j (Made d) = j

  abbrev handed : J → List (ℕ × SlotValue J D) → J
  handed j [] = j
  handed j (x ∷ xs) = given_or j x.1

  -- what was handed over is what the seat holds
  pub same_job : (a b : ℕ) (x y : J) (xs ys : List (ℕ × SlotValue J D)) → (a, Given x) ∷ xs ≡ (b, Given y) ∷ ys → x ≡ y
  same_job a b x y xs ys e = ap (handed x) e
