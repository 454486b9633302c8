-- The lesser of two vectors lane by lane, and the word of where it is the second, at any width of lanes.
use Rattle.std.proofs.Common.{arith, sym, subst, ◌∙◌, ap, refl, ◌≡◌, ◌<◌, ◌≤◌, ◌-◌, ◌%◌, ◌^◌, ℕ, Bool, true, false}
use Rattle.std.proofs.Common.{cond, min, nat_eq, length, get_or, ltb, List, [], ◌∷◌, not, leb, ⊎_elim}
use Rattle.std.proofs.lemmas.Simd.{tops_compared, length-sel_l, get_or-sel_l, length-zip2, get_or-zip2, mask_l-mod}
use Rattle.std.proofs.lemmas.Simd.{mask_l-lt, bit_mask_l}
use Rattle.std.proofs.lemmas.Bool.{leb-true, leb-false, lt-ltb, le-ltb, le-leb, lt-leb}
use Rattle.std.proofs.str.Laws.{order}
use Rattle.std.specs.Int.{bit_at}
use Rattle.std.specs.Prelude.{map}
use lib.Lanes.{zip2, sel_l, mask_l, top}
use mir.Syntax.{Width}
use mir.Val.{bits, hbits}

cond_min : (a b : ℕ) (t : Bool) → leb a b ≡ t → cond t a b ≡ min a b
cond_min a b true e = let l : a ≤ b = leb-true a b e in omega arith
cond_min a b false e = let l : b < a = leb-false a b e in omega arith

pub one_test : (t : Bool) → nat_eq (cond t 1 0) 1 ≡ t
one_test false = refl
one_test true = refl

-- the second is below the first, where the first is not at most the second
pub not_leb : (a b : ℕ) → not (leb a b) ≡ ltb b a
not_leb a b =
    ⊎_elim
    (λ (below : b < a). ap not (lt-leb a b below) ∙ sym (lt-ltb b a below))
    (λ (above : a ≤ b). ap not (le-leb a b above) ∙ sym (le-ltb b a above))
    (order b a)

-- the complement of a mask
turned : (w : Width) (t : Bool) → 2 ^ bits w - 1 - cond t (2 ^ bits w - 1) 0 ≡ cond (not t) (2 ^ bits w - 1) 0
turned w true = omega arith
turned w false = omega arith

all_turned : (w : Width) (t : ℕ → ℕ → Bool) (xs ys : List ℕ) →
    map (λ m. 2 ^ bits w - 1 - m) (zip2 (λ a b. cond (t a b) (2 ^ bits w - 1) 0) xs ys) ≡
    zip2 (λ a b. cond (not (t a b)) (2 ^ bits w - 1) 0) xs ys
all_turned w t [] ys = refl
all_turned w t (x ∷ xs) [] = refl
all_turned w t (x ∷ xs) (y ∷ ys) = λ i. turned w (t x y) i ∷ all_turned w t xs ys i

module _ (w : Width) (xs ys : List ℕ) (l : length xs ≡ 32) (r : length ys ≡ 32) where
  -- whether each lane of xs is at most that of ys
  abbrev firsts : List Bool
  firsts = zip2 leb xs ys

  -- whether it is not
  abbrev seconds : List Bool
  seconds = zip2 (λ a b. not (leb a b)) xs ys

  abbrev tops : List Bool
  tops = map (top (hbits w)) (zip2 (λ a b. cond (leb a b) (2 ^ bits w - 1) 0) xs ys)

  abbrev turned_tops : List Bool
  turned_tops =
      map (top (hbits w)) (map (λ m. 2 ^ bits w - 1 - m) (zip2 (λ a b. cond (leb a b) (2 ^ bits w - 1) 0) xs ys))

  pub tops_are : tops ≡ firsts
  tops_are = tops_compared w leb xs ys

  turned_are : turned_tops ≡ seconds
  turned_are = ap (map (top (hbits w))) (all_turned w leb xs ys) ∙ tops_compared w (λ a b. not (leb a b)) xs ys

  pub long : length firsts ≡ 32
  long = length-zip2 leb xs ys (l ∙ sym r) ∙ l

  also_long : length seconds ≡ 32
  also_long = length-zip2 (λ a b. not (leb a b)) xs ys (l ∙ sym r) ∙ l

  pub first_at : (k : ℕ) → k < 32 → get_or firsts k false ≡ leb (get_or xs k 0) (get_or ys k 0)
  first_at k h = get_or-zip2 leb xs ys k 0 0 false (omega arith) (omega arith)

  second_at : (k : ℕ) → k < 32 → get_or seconds k false ≡ ltb (get_or ys k 0) (get_or xs k 0)
  second_at k h =
      get_or-zip2 (λ a b. not (leb a b)) xs ys k 0 0 false (omega arith) (omega arith)
      ∙ not_leb (get_or xs k 0) (get_or ys k 0)

  pub size_is : length (sel_l tops xs ys) ≡ 32
  size_is = ap (λ t. length (sel_l t xs ys)) tops_are ∙ length-sel_l firsts xs ys (long ∙ sym l) (long ∙ sym r) ∙ long

  pub least_is : (k : ℕ) → k < 32 → get_or (sel_l tops xs ys) k 0 ≡ min (get_or xs k 0) (get_or ys k 0)
  least_is k h =
      let n = long in
      ap (λ t. get_or (sel_l t xs ys) k 0) tops_are
      ∙ get_or-sel_l firsts xs ys k 0 (omega arith) (omega arith) (omega arith)
      ∙ ap (λ t. cond t (get_or xs k 0) (get_or ys k 0)) (first_at k h)
      ∙ cond_min (get_or xs k 0) (get_or ys k 0) (leb (get_or xs k 0) (get_or ys k 0)) refl

  mask_is : mask_l turned_tops % 2 ^ 64 ≡ mask_l seconds
  mask_is =
      ap (λ t. mask_l t % 2 ^ 64) turned_are ∙ mask_l-mod seconds 64 (let n = also_long in omega arith)

  pub second_is : (k : ℕ) → k < 32 →
      nat_eq (bit_at (mask_l turned_tops % 2 ^ 64) k) 1 ≡ ltb (get_or ys k 0) (get_or xs k 0)
  second_is k h =
      ap (λ m. nat_eq (bit_at m k) 1) mask_is ∙ ap (λ x. nat_eq x 1)
      (bit_mask_l seconds k ∙ ap (λ t. cond t 1 0) (second_at k h)) ∙ one_test _

  pub bound_is : mask_l turned_tops % 2 ^ 64 < 2 ^ 32
  bound_is =
      let n : mask_l seconds < 2 ^ 32 = subst (λ k. mask_l seconds < 2 ^ k) also_long (mask_l-lt seconds) in
      omega (arith, mask_is)
