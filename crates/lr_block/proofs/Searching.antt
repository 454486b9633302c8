-- What is sought in a list is found: the members of lists, and the list of all words.
use Rattle.std.proofs.Common.{◌≡◌, ℕ, zero, suc, ◌+◌, ◌<◌, ◌≤◌, ◌⊎◌, inl, inr, Bool, true, false, Some, None, List}
use Rattle.std.proofs.Common.{[], ◌∷◌, ◌++◌, map, length, get_or, refl, sym, ap, subst, ◌∙◌, arith}
use Rattle.std.specs.List.{range_with_len, flat_map, find, list_all}
use Rattle.std.proofs.lemmas.Bool.{cases_Bool, cases_eq, cases_lt, cond-true, cond-false, and_parts, and_from}
use Rattle.std.proofs.lemmas.Bool.{false≢true}
use Rattle.lr_block.specs.Outcomes.{all_lists}

-- the list has this member
abbrev pub IsAmong : {X : Type 0} → List X → X → Type 0
IsAmong [] x = ⊥
IsAmong (y ∷ ys) x = (y ≡ x) ⊎ IsAmong ys x

member-left : {X : Type 0} (xs ys : List X) (x : X) → IsAmong xs x → IsAmong (xs ++ ys) x
member-left [] ys x h = elim h [ ]
member-left (y ∷ xs) ys x h = elim h [ inl e ↦ inl e | inr m ↦ inr (member-left xs ys x m) ]

member-right : {X : Type 0} (xs ys : List X) (x : X) → IsAmong ys x → IsAmong (xs ++ ys) x
member-right [] ys x h = h
member-right (y ∷ xs) ys x h = inr (member-right xs ys x h)

member-append : {X : Type 0} (xs ys : List X) (x : X) → IsAmong (xs ++ ys) x → IsAmong xs x ⊎ IsAmong ys x
member-append [] ys x h = inr h
member-append (y ∷ xs) ys x h =
    elim h [
      | inl e ↦ inl (inl e)
      | inr m ↦ elim (member-append xs ys x m) [ inl l ↦ inl (inr l) | inr r ↦ inr r ]
    ]

member-map : {X Y : Type 0} (f : X → Y) (xs : List X) (x : X) → IsAmong xs x → IsAmong (map f xs) (f x)
member-map f [] x h = elim h [ ]
member-map f (y ∷ xs) x h = elim h [ inl e ↦ inl (ap f e) | inr m ↦ inr (member-map f xs x m) ]

from-map : {X Y : Type 0} (f : X → Y) (xs : List X) (y : Y) → IsAmong (map f xs) y → (x : X) × IsAmong xs x × (f x ≡ y)
from-map f [] y h = elim h [ ]
from-map f (x ∷ xs) y h =
    elim h [
      | inl e ↦ (x, inl refl, e)
      | inr m ↦ let v = from-map f xs y m in (v.0, inr v.1, v.2)
    ]

member-flat_map : {X Y : Type 0} (f : X → List Y) (xs : List X) (x : X) (y : Y) → IsAmong xs x → IsAmong (f x) y
    → IsAmong (flat_map f xs) y
member-flat_map f [] x y h m = elim h [ ]
member-flat_map {X} {Y} f (z ∷ xs) x y h m =
    elim h [
      | inl e ↦ member-left (f z) (flat_map f xs) y (subst (λ (w : X). IsAmong (f w) y) (sym e) m)
      | inr r ↦ member-right (f z) (flat_map f xs) y (member-flat_map f xs x y r m)
    ]

from-flat_map : {X Y : Type 0} (f : X → List Y) (xs : List X) (y : Y) → IsAmong (flat_map f xs) y
    → (x : X) × IsAmong xs x × IsAmong (f x) y
from-flat_map f [] y h = elim h [ ]
from-flat_map f (x ∷ xs) y h =
    elim (member-append (f x) (flat_map f xs) y h) [
      | inl l ↦ (x, inl refl, l)
      | inr r ↦ let v = from-flat_map f xs y r in (v.0, inr v.1, v.2)
    ]

pub member-range : (a n k : ℕ) → a ≤ k → k < a + n → IsAmong (range_with_len a n) k
member-range a zero k l h = absurd (omega arith)
member-range a (suc n) k l h =
    elim (cases_eq a k) [ inl e ↦ inl e | inr ne ↦ inr (member-range (a + 1) n k (omega (arith, ne)) (omega arith)) ]

pub from-range : (a n k : ℕ) → IsAmong (range_with_len a n) k → (a ≤ k) × (k < a + n)
from-range a zero k h = elim h [ ]
from-range a (suc n) k h =
    elim h [
      | inl e ↦ (omega (arith, e), omega (arith, e))
      | inr m ↦ let v = from-range (a + 1) n k m in (omega (arith, v.0), omega (arith, v.1))
    ]

-- ---- tests of all members

pub list_all-member : {X : Type 0} (p : X → Bool) (xs : List X) (x : X) → list_all p xs ≡ true → IsAmong xs x
    → p x ≡ true
list_all-member p [] x h m = elim m [ ]
list_all-member {X} p (y ∷ xs) x h m =
    elim m [
      | inl e ↦ subst (λ (z : X). p z ≡ true) e (and_parts (p y) (list_all p xs) h).0
      | inr r ↦ list_all-member p xs x (and_parts (p y) (list_all p xs) h).1 r
    ]

pub list_all-from : {X : Type 0} (p : X → Bool) (xs : List X) → ((x : X) → IsAmong xs x → p x ≡ true)
    → list_all p xs ≡ true
list_all-from p [] h = refl
list_all-from p (y ∷ xs) h = and_from (p y) (list_all p xs) (h y (inl refl)) (list_all-from p xs (λ x m. h x (inr m)))

-- ---- the first member that passes

pub cases_find : {X : Type 0} (p : X → Bool) (xs : List X)
    → ((find p xs ≡ None) × ((x : X) → IsAmong xs x → p x ≡ false))
    ⊎ ((x : X) × (find p xs ≡ Some x) × IsAmong xs x × (p x ≡ true))
cases_find p [] = inl (refl, λ x m. elim m [ ])
cases_find {X} p (y ∷ xs) =
    elim (cases_Bool (p y)) [
      | inl t ↦ inr (y, cond-true (p y) (Some y) (find p xs) t, inl refl, t)
      | inr f ↦
          elim (cases_find p xs) [
            | inl none ↦
                inl (
                  cond-false (p y) (Some y) (find p xs) f ∙ none.0,
                  λ x m. elim m [ inl e ↦ subst (λ (z : X). p z ≡ false) e f | inr r ↦ none.1 x r ],
                )
            | inr some ↦ inr (some.0, cond-false (p y) (Some y) (find p xs) f ∙ some.1, inr some.2, some.3)
          ]
    ]

-- the same of numbers in a row, of which the first that passes is found
pub cases_first : (p : ℕ → Bool) (a n : ℕ)
    → ((find p (range_with_len a n) ≡ None) × ((k : ℕ) → a ≤ k → k < a + n → p k ≡ false))
    ⊎ ((k : ℕ) × (find p (range_with_len a n) ≡ Some k) × (k < a + n) × (p k ≡ true)
    × ((j : ℕ) → a ≤ j → j < k → p j ≡ false))
cases_first p a zero = inl (refl, λ k l h. absurd (omega arith))
cases_first p a (suc n) =
    elim (cases_Bool (p a)) [
      | inl t ↦ inr (
        a,
        cond-true (p a) (Some a) (find p (range_with_len (a + 1) n)) t,
        omega arith,
        t,
        λ j l h. absurd (omega arith),
      )
      | inr f ↦
          elim (cases_first p (a + 1) n) [
            | inl none ↦
                inl (
                  cond-false (p a) (Some a) (find p (range_with_len (a + 1) n)) f ∙ none.0,
                  λ k l h. elim (cases_eq a k) [
                    | inl e ↦ subst (λ (z : ℕ). p z ≡ false) e f
                    | inr ne ↦ none.1 k (omega (arith, ne)) (omega arith)
                  ],
                )
            | inr some ↦
                inr (
                  some.0,
                  cond-false (p a) (Some a) (find p (range_with_len (a + 1) n)) f ∙ some.1,
                  omega (arith, some.2),
                  some.3,
                  λ j l h. elim (cases_eq a j) [
                    | inl e ↦ subst (λ (z : ℕ). p z ≡ false) e f
                    | inr ne ↦ some.4 j (omega (arith, ne)) h
                  ],
                )
          ]
    ]

-- the first is the only one with none before it
pub is_first : (p : ℕ → Bool) (n k : ℕ) → k < n → p k ≡ true → ((j : ℕ) → j < k → p j ≡ false)
    → find p (range_with_len 0 n) ≡ Some k
is_first p n k small here before =
    elim (cases_first p 0 n) [
      | inl none ↦ absurd (false≢true (sym (none.1 k (omega arith) (omega arith)) ∙ here))
      | inr some ↦
          elim (cases_eq some.0 k) [
            | inl e ↦ some.1 ∙ ap (λ (z : ℕ). Some z) e
            | inr ne ↦
                elim (cases_lt some.0 k) [
                  | inl l ↦ absurd (false≢true (sym (before some.0 l) ∙ some.3))
                  | inr l ↦ absurd (false≢true (sym (some.4 k (omega arith) (omega (arith, ne))) ∙ here))
                ]
          ]
    ]

pub none_is_first : (p : ℕ → Bool) (n : ℕ) → ((k : ℕ) → k < n → p k ≡ false) → find p (range_with_len 0 n) ≡ None
none_is_first p n none =
    elim (cases_first p 0 n) [
      | inl h ↦ h.0
      | inr some ↦ absurd (false≢true (sym (none some.0 (omega (arith, some.2))) ∙ some.3))
    ]

-- ---- all lists

pub member-all_lists : (limit n : ℕ) (xs : List ℕ) → length xs ≡ n → ((i : ℕ) → i < n → get_or xs i 0 < limit)
    → IsAmong (all_lists limit n) xs
unfolding all_lists
member-all_lists limit zero [] e h = inl refl
member-all_lists limit zero (x ∷ xs) e h = absurd (omega (arith, e))
member-all_lists limit (suc n) [] e h = absurd (omega (arith, e))
member-all_lists limit (suc n) (x ∷ xs) e h =
    member-flat_map (λ rest. map (λ number. number ∷ rest) (range_with_len 0 limit)) (all_lists limit n) xs (x ∷ xs)
    (member-all_lists limit n xs (omega (arith, e)) (λ i l. h (suc i) (omega arith)))
    (member-map (λ number. number ∷ xs) (range_with_len 0 limit) x
    (member-range 0 limit x (omega arith) (omega (arith, h 0 (omega arith)))))

pub from-all_lists : (limit n : ℕ) (xs : List ℕ) → IsAmong (all_lists limit n) xs
    → (length xs ≡ n) × ((i : ℕ) → i < n → get_or xs i 0 < limit)
unfolding all_lists
from-all_lists limit zero xs h =
    elim h [ inl e ↦ (ap length (sym e), λ i l. absurd (omega arith)) | inr m ↦ elim m [ ] ]
from-all_lists limit (suc n) xs h =
    let v = from-flat_map (λ rest. map (λ number. number ∷ rest) (range_with_len 0 limit)) (all_lists limit n) xs h in
    let w = from-map (λ number. number ∷ v.0) (range_with_len 0 limit) xs v.2 in
    let rest = from-all_lists limit n v.0 v.1 in
    let small = from-range 0 limit w.0 w.1 in
    subst (λ (ys : List ℕ). (length ys ≡ suc n) × ((i : ℕ) → i < suc n → get_or ys i 0 < limit)) w.2
    (extended limit n w.0 v.0 (omega (arith, small.1)) rest.0 rest.1)
  where
    extended : (limit n x : ℕ) (xs : List ℕ) → x < limit → length xs ≡ n → ((i : ℕ) → i < n → get_or xs i 0 < limit)
        → (length (x ∷ xs) ≡ suc n) × ((i : ℕ) → i < suc n → get_or (x ∷ xs) i 0 < limit)
    extended limit n x xs h e all = (ap suc e, λ i l. each limit n x xs h all i l)
      where
        each : (limit n x : ℕ) (xs : List ℕ) → x < limit → ((i : ℕ) → i < n → get_or xs i 0 < limit) → (i : ℕ)
            → i < suc n → get_or (x ∷ xs) i 0 < limit
        each limit n x xs h all zero l = h
        each limit n x xs h all (suc i) l = all i (omega arith)
