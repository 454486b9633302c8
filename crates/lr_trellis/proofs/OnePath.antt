-- There is exactly one nearest path of a window.
use Rattle.std.proofs.Common.{ap, refl, sym, subst, ◌∙◌, ◌≡◌, ℕ, ℤ, ◌+◌, ◌-◌, ◌*◌, ◌/◌, ◌<◌, ◌≤◌, zero, suc, Bool, true}
use Rattle.std.proofs.Common.{false, cond, ltb, List, [], ◌∷◌, length, reverse, arith}
use Rattle.std.proofs.lemmas.Bool.{ltb-true, ltb-false}
use Rattle.std.proofs.lemmas.List.{length-reverse, reverse-reverse}
use Rattle.lr_conv.specs.Levels.{bits_of_levels}
use Rattle.lr_conv.specs.Marker.{last_marker_level}
use Rattle.lr_conv.specs.declared.line.LineCode.{LineCode}
use Rattle.lr_conv.proofs.Lines.{bits_of_levels_of, length-bits_of_levels, length-levels, levels_of_bits_of}
use Rattle.lr_trellis.specs.Path.{path_cost, path_levels, path_of_levels, NotAfter, IsNearestPath, first_least}
use Rattle.lr_trellis.specs.Path.{nearest_path}

-- x costs least of the lists of n bits, and is the first of those that cost the same
record IsFirstLeast (n : ℕ) (price : List Bool → ℕ) (x : List Bool) : Type 0 where
  size : length x ≡ n
  least : (y : List Bool) → length y ≡ n → price x ≤ price y
  first : (y : List Bool) → length y ≡ n → price y ≡ price x → NotAfter x y

module _ (n : ℕ) (price : List Bool → ℕ) (z o : List Bool) (zeros : IsFirstLeast n (λ x. price (false ∷ x)) z)
    (ones : IsFirstLeast n (λ x. price (true ∷ x)) o) where
  one_least : price (true ∷ o) < price (false ∷ z) → (y : List Bool) → length y ≡ suc n → price (true ∷ o) ≤ price y
  one_least l [] e = absurd (omega arith)
  one_least l (false ∷ y) e = omega (arith, zeros.least y (omega arith))
  one_least l (true ∷ y) e = ones.least y (omega arith)

  one_first : price (true ∷ o) < price (false ∷ z) → (y : List Bool) → length y ≡ suc n → price y ≡ price (true ∷ o) →
      NotAfter (true ∷ o) y
  one_first l [] e same = absurd (omega arith)
  one_first l (false ∷ y) e same = absurd (omega (arith, zeros.least y (omega arith)))
  one_first l (true ∷ y) e same = ones.first y (omega arith) same

  zero_least : price (false ∷ z) ≤ price (true ∷ o) → (y : List Bool) → length y ≡ suc n → price (false ∷ z) ≤ price y
  zero_least l [] e = absurd (omega arith)
  zero_least l (false ∷ y) e = zeros.least y (omega arith)
  zero_least l (true ∷ y) e = omega (arith, ones.least y (omega arith))

  zero_first : (y : List Bool) → length y ≡ suc n → price y ≡ price (false ∷ z) → NotAfter (false ∷ z) y
  zero_first [] e same = absurd (omega arith)
  zero_first (false ∷ y) e same = zeros.first y (omega arith) same
  zero_first (true ∷ y) e same = tt

  chosen : (t : Bool) → ltb (price (true ∷ o)) (price (false ∷ z)) ≡ t →
      IsFirstLeast (suc n) price (cond t (true ∷ o) (false ∷ z))
  chosen true e = let l = ltb-true _ _ e in record { size = ap suc ones.size; least = one_least l; first = one_first l }
  chosen false e =
      let l = ltb-false _ _ e in record { size = ap suc zeros.size; least = zero_least l; first = zero_first }

none_least : (price : List Bool → ℕ) (y : List Bool) → length y ≡ 0 → price [] ≤ price y
none_least price [] e = omega arith
none_least price (b ∷ y) e = absurd (omega arith)

is_first_least : (n : ℕ) (price : List Bool → ℕ) → IsFirstLeast n price (first_least n price)
unfolding first_least
is_first_least zero price = record { size = refl; least = none_least price; first = λ y e same. tt }
is_first_least (suc n) price =
    chosen n price _ _ (is_first_least n (λ x. price (false ∷ x))) (is_first_least n (λ x. price (true ∷ x))) _ refl

-- the order has no two equals
not_after_both : (x y : List Bool) → length x ≡ length y → NotAfter x y → NotAfter y x → x ≡ y
not_after_both [] [] e n m = refl
not_after_both [] (c ∷ y) e n m = absurd (omega arith)
not_after_both (b ∷ x) [] e n m = absurd (omega arith)
not_after_both (false ∷ x) (false ∷ y) e n m = ap (λ z. false ∷ z) (not_after_both x y (omega arith) n m)
not_after_both (false ∷ x) (true ∷ y) e n m = absurd m
not_after_both (true ∷ x) (false ∷ y) e n m = absurd n
not_after_both (true ∷ x) (true ∷ y) e n m = ap (λ z. true ∷ z) (not_after_both x y (omega arith) n m)

-- ---- lists of bits by the order of their levels
-- x has the least price of all lists of its length, and is the first of those that have it
pub record IsLeast (line : LineCode) (price : List Bool → ℕ) (x : List Bool) : Type 0 where
  pub least : (y : List Bool) → length y ≡ length x → price x ≤ price y
  pub first : (y : List Bool) → length y ≡ length x → price y ≡ price x →
      NotAfter (reverse (path_levels line x)) (reverse (path_levels line y))

-- two lists of which neither is after the other
pub one_by_order : (line : LineCode) (x y : List Bool) → length y ≡ length x →
    NotAfter (reverse (path_levels line x)) (reverse (path_levels line y)) →
    NotAfter (reverse (path_levels line y)) (reverse (path_levels line x)) → x ≡ y
one_by_order line x y size p q =
    let z = last_marker_level line in
    let lengths : length (reverse (path_levels line x)) ≡ length (reverse (path_levels line y)) =
    omega (
      arith,
      length-reverse (path_levels line x),
      length-reverse (path_levels line y),
      length-levels line z x,
      length-levels line z y,
    ) in
    let both = not_after_both (reverse (path_levels line x)) (reverse (path_levels line y)) lengths p q in
    let levels_same : path_levels line x ≡ path_levels line y =
    sym (reverse-reverse (path_levels line x)) ∙ ap reverse both ∙ reverse-reverse (path_levels line y) in
    sym (bits_of_levels_of line z x) ∙ ap (bits_of_levels line z) levels_same ∙ bits_of_levels_of line z y

pub only_least : (line : LineCode) (price : List Bool → ℕ) (x y : List Bool) → length y ≡ length x →
    IsLeast line price x → IsLeast line price y → x ≡ y
only_least line price x y size p q =
    let less = p.least y size in
    let more = q.least x (sym size) in
    let same : price y ≡ price x = omega arith in
    one_by_order line x y size (p.first y size same) (q.first x (sym size) (sym same))

-- the least price of a path is that of the nearest one
pub nearest_of : (line : LineCode) (w : List ℤ) (x : List Bool) → length w ≡ 2 * length x + 12 →
    IsLeast line (path_cost line w) x → IsNearestPath line w x
nearest_of line w x size p = record { size = size; least = p.least; first = p.first }

only_one : (line : LineCode) (w : List ℤ) (x y : List Bool) → IsNearestPath line w x → IsNearestPath line w y →
    x ≡ y
only_one line w x y p q =
    only_least line (path_cost line w) x y (omega (arith, p.size, q.size))
    (record { least = p.least; first = p.first }) (record { least = q.least; first = q.first })

-- the levels of a path made of levels
levels_back : (line : LineCode) (h : List Bool) → path_levels line (path_of_levels line h) ≡ reverse h
levels_back line h = levels_of_bits_of line (last_marker_level line) (reverse h)

path_back : (line : LineCode) (y : List Bool) → path_of_levels line (reverse (path_levels line y)) ≡ y
path_back line y =
    ap (bits_of_levels line (last_marker_level line)) (reverse-reverse (path_levels line y))
    ∙ bits_of_levels_of line (last_marker_level line) y

-- the list by name has the least price
size_named : (line : LineCode) (n : ℕ) (h : List Bool) → length h ≡ n → length (path_of_levels line h) ≡ n
size_named line n h e = length-bits_of_levels line (last_marker_level line) (reverse h) ∙ length-reverse h ∙ e

named : (line : LineCode) (price : List Bool → ℕ) (n : ℕ) (h : List Bool) →
    IsFirstLeast n (λ y. price (path_of_levels line y)) h → IsLeast line price (path_of_levels line h)
named line price n h f =
    let long = size_named line n h f.size in
    let backwards : (y : List Bool) → length y ≡ length (path_of_levels line h) →
    length (reverse (path_levels line y)) ≡ n = λ y e. length-reverse (path_levels line y)
    ∙ length-levels line (last_marker_level line) y ∙ e ∙ long in
    let own : reverse (path_levels line (path_of_levels line h)) ≡ h =
    ap reverse (levels_back line h) ∙ reverse-reverse h in
    record {
      least = λ y e. subst (λ x. price (path_of_levels line h) ≤ price x) (path_back line y)
          (f.least (reverse (path_levels line y)) (backwards y e));
      first = λ y e same. subst (λ x. NotAfter x (reverse (path_levels line y))) (sym own)
          (f.first (reverse (path_levels line y)) (backwards y e) (ap price (path_back line y) ∙ same));
    }

pub named_least : (line : LineCode) (price : List Bool → ℕ) (n : ℕ) →
    let x = path_of_levels line (first_least n (λ y. price (path_of_levels line y))) in
    IsLeast line price x × (length x ≡ n)
named_least line price n =
    let f = is_first_least n (λ y. price (path_of_levels line y)) in
    (named line price n _ f, size_named line n _ f.size)

pub nearest_path_is_one : (line : LineCode) (w : List ℤ) (n : ℕ) → length w ≡ 2 * n + 12 →
    IsNearestPath line w (nearest_path line w)
unfolding nearest_path
nearest_path_is_one line w n size =
    let found = named_least line (path_cost line w) (length w / 2 - 6) in
    let long = found.1 in
    nearest_of line w _ (omega arith) found.0

pub nearest_path_is_the_one : (line : LineCode) (w : List ℤ) (x : List Bool) → IsNearestPath line w x →
    x ≡ nearest_path line w
nearest_path_is_the_one line w x p =
    only_one line w x (nearest_path line w) p (nearest_path_is_one line w (length x) p.size)

-- ---- a list of no bits is the only one of its length
no_other : (a b : List Bool) → length a ≡ 0 → length b ≡ 0 → a ≡ b
no_other [] [] e f = refl
no_other [] (c ∷ b) e f = absurd (omega arith)
no_other (c ∷ a) b e f = absurd (omega arith)

none_after : (x : List Bool) → NotAfter x x
none_after [] = tt
none_after (false ∷ x) = none_after x
none_after (true ∷ x) = none_after x

pub none_is_least : (line : LineCode) (price : List Bool → ℕ) (x : List Bool) → length x ≡ 0 → IsLeast line price x
none_is_least line price x none = record {
  least = λ y e. let same = ap price (no_other x y none (e ∙ none)) in omega arith;
  first = λ y e cost. subst (λ z. NotAfter (reverse (path_levels line x)) (reverse (path_levels line z)))
      (no_other x y none (e ∙ none)) (none_after (reverse (path_levels line x)));
}

-- ---- the list of least price by name, by what the lists cost
choice_same : (i j : ℕ) (k l : ℕ) (a b c d : List Bool) → i ≡ j → k ≡ l → a ≡ c → b ≡ d →
    cond (ltb i k) a b ≡ cond (ltb j l) c d
choice_same i j k l a b c d p q r s = cc

pub first_least_same : (n : ℕ) (p q : List Bool → ℕ) → ((y : List Bool) → p y ≡ q y) → first_least n p ≡ first_least n q
unfolding first_least
first_least_same zero p q same = refl
first_least_same (suc n) p q same =
    let ones = first_least_same n (λ x. p (true ∷ x)) (λ x. q (true ∷ x)) (λ x. same (true ∷ x)) in
    let zeros = first_least_same n (λ x. p (false ∷ x)) (λ x. q (false ∷ x)) (λ x. same (false ∷ x)) in
    choice_same _ _ _ _ _ _ _ _
    (same _ ∙ ap (λ x. q (true ∷ x)) ones)
    (same _ ∙ ap (λ x. q (false ∷ x)) zeros)
    (ap (λ x. true ∷ x) ones)
    (ap (λ x. false ∷ x) zeros)
