-- Lengths of two bytes each, read one after another.
use Rattle.std.proofs.Common.{◌≡◌, ◌+◌, ◌-◌, ◌*◌, ◌<◌, ◌≤◌, ℕ, zero, suc, List, [], ◌∷◌, ◌++◌, take, drop, sum, All}
use Rattle.std.proofs.Common.{refl, sym, ap, ◌∙◌, subst, arith, zero-add}
use Rattle.std.proofs.lemmas.List.{drop-drop, drop-take}
use Rattle.std.proofs.lemmas.List.Elements.{All-append}
use Rattle.std.proofs.lemmas.List.Sums.{sum_by-append}
use Rattle.byteorder.specs.Endian.{big_number}
use Rattle.byteorder.specs.Numbers.{big_from-take}
use Rattle.lr_bits.specs.Sizes.{most_body_bytes}
use Rattle.lr_shelf_format.specs.Record.{numbers_in}

pub numbers_in-add : (m n : ℕ) (xs : List ℕ) → numbers_in (m + n) xs ≡ numbers_in m xs ++ numbers_in n (drop (2 * m) xs)
numbers_in-add zero n xs = ap (λ k. numbers_in k xs) (zero-add n)
numbers_in-add (suc m) n xs =
    let turn : suc m + n ≡ suc (m + n) = omega arith in
    let place : drop (2 * m) (drop 2 xs) ≡ drop (2 * suc m) xs = drop-drop (2 * m) 2 xs
    ∙ ap (λ k. drop k xs) (omega arith) in
    ap (λ k. numbers_in k xs) turn
    ∙ ap (λ l. big_number 2 xs ∷ l)
    (numbers_in-add m n (drop 2 xs) ∙ ap (λ l. numbers_in m (drop 2 xs) ++ numbers_in n l) place)

pub numbers_in-take : (n m : ℕ) (xs : List ℕ) → 2 * n ≤ m → numbers_in n (take m xs) ≡ numbers_in n xs
numbers_in-take zero m xs fits = refl
numbers_in-take (suc n) m xs fits =
    let size : 2 + (m - 2) ≡ m = omega arith in
    let first : big_number 2 (take m xs) ≡ big_number 2 xs = big_from-take 0 2 m xs (omega arith) in
    let rest : drop 2 (take m xs) ≡ take (m - 2) (drop 2 xs) = ap (λ k. drop 2 (take k xs)) (sym size)
    ∙ drop-take 2 (m - 2) xs in
    ap (λ k. k ∷ numbers_in n (drop 2 (take m xs))) first ∙ ap (λ l. big_number 2 xs ∷ numbers_in n l) rest
    ∙ ap (λ l. big_number 2 xs ∷ l) (numbers_in-take n (m - 2) (drop 2 xs) (omega arith))

pub IsShort : ℕ → Type 0
IsShort n = n ≤ most_body_bytes

-- one number more, and several more
pub sum_add : (m n : ℕ) (xs : List ℕ)
    → sum (numbers_in (m + n) xs) ≡ sum (numbers_in m xs) + sum (numbers_in n (drop (2 * m) xs))
sum_add m n xs = ap sum (numbers_in-add m n xs)
    ∙ sum_by-append (λ k. k) (numbers_in m xs) (numbers_in n (drop (2 * m) xs))

pub short_add : (m n : ℕ) (xs : List ℕ) → All (λ one. one ≤ most_body_bytes) (numbers_in m xs)
    → All (λ one. one ≤ most_body_bytes) (numbers_in n (drop (2 * m) xs))
    → All (λ one. one ≤ most_body_bytes) (numbers_in (m + n) xs)
short_add m n xs front back =
    subst (All (λ one. one ≤ most_body_bytes)) (sym (numbers_in-add m n xs))
    (All-append (λ one. one ≤ most_body_bytes) _ _ front back)

-- the number after the first m
pub short_there : (m n : ℕ) (xs : List ℕ) → m < n → All (λ one. one ≤ most_body_bytes) (numbers_in n xs)
    → big_number 2 (drop (2 * m) xs) ≤ most_body_bytes
short_there zero zero xs inside short = absurd (omega arith)
short_there zero (suc n) xs inside short = short 0 0 (omega arith)
short_there (suc m) zero xs inside short = absurd (omega arith)
short_there (suc m) (suc n) xs inside short =
    let place : drop (2 * m) (drop 2 xs) ≡ drop (2 * suc m) xs = drop-drop (2 * m) 2 xs
    ∙ ap (λ k. drop k xs) (omega arith) in
    subst (λ l. big_number 2 l ≤ most_body_bytes) place
    (short_there m n (drop 2 xs) (omega arith) (λ k d within. short (suc k) d (omega arith)))

-- all of them are those in between, too
pub short_part : (m n k : ℕ) (xs : List ℕ) → m + n ≤ k → All (λ one. one ≤ most_body_bytes) (numbers_in k xs)
    → All (λ one. one ≤ most_body_bytes) (numbers_in n (drop (2 * m) xs))
short_part m n k xs fits short =
    let size : (m + n) + (k - (m + n)) ≡ k = omega arith in
    let whole : All (λ one. one ≤ most_body_bytes)
    (numbers_in m xs ++ numbers_in n (drop (2 * m) xs) ++ numbers_in (k - (m + n)) (drop (2 * (m + n)) xs)) =
    subst (All (λ one. one ≤ most_body_bytes))
    (ap (λ j. numbers_in j xs) (sym size) ∙ numbers_in-add (m + n) (k - (m + n)) xs
    ∙ ap (λ l. l ++ numbers_in (k - (m + n)) (drop (2 * (m + n)) xs)) (numbers_in-add m n xs)) short in
    middle (numbers_in m xs) (numbers_in n (drop (2 * m) xs)) (numbers_in (k - (m + n)) (drop (2 * (m + n)) xs)) whole
  where
    front : (xs ys : List ℕ) → All (λ one. one ≤ most_body_bytes) (xs ++ ys) → All (λ one. one ≤ most_body_bytes) xs
    front [] ys short k d inside = absurd (omega arith)
    front (x ∷ xs) ys short zero d inside = short 0 d (omega arith)
    front (x ∷ xs) ys short (suc k) d inside =
        front xs ys (λ j e within. short (suc j) e (omega arith)) k d (omega arith)

    back : (xs ys : List ℕ) → All (λ one. one ≤ most_body_bytes) (xs ++ ys) → All (λ one. one ≤ most_body_bytes) ys
    back [] ys short = short
    back (x ∷ xs) ys short = back xs ys (λ j e within. short (suc j) e (omega arith))

    middle : (xs ys zs : List ℕ) → All (λ one. one ≤ most_body_bytes) (xs ++ ys ++ zs)
        → All (λ one. one ≤ most_body_bytes) ys
    middle xs ys zs short = back xs ys (front (xs ++ ys) zs short)

-- what a piece gives is what stands there
pub piece_numbers : (n at : ℕ) (piece bytes : List ℕ) → piece ≡ take (2 * n) (drop at bytes)
    → numbers_in n piece ≡ numbers_in n (drop at bytes)
piece_numbers n at piece bytes same = ap (numbers_in n) same ∙ numbers_in-take n (2 * n) (drop at bytes) (omega arith)
