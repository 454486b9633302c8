-- Symbols and tails as bits of a number.
use Rattle.std.proofs.Common.{◌≡◌, ℕ, ◌+◌, ◌*◌, ◌/◌, ◌%◌, ◌<◌, ◌≤◌, ◌^◌, ◌&&◌, ◌||◌, Bool, true, false, cond, ℤ, List}
use Rattle.std.proofs.Common.{[], ◌∷◌, ◌++◌, length, map, refl, sym, ◌∙◌, ap, subst, arith, length-drop, pow-suc, drop}
use Rattle.std.proofs.Common.{Fits, w64, ◌-◌}
use Rattle.std.specs.Prelude.{bit_and, bit_or, count_ones, not}
use Rattle.std.specs.Int.Bits.{and_zero_r, or_shifted_r}
use Rattle.std.proofs.Math.Nat.{pow-le-pow_right}
use Rattle.std.proofs.lemmas.Nat.{and_block, or_block}
use Rattle.std.proofs.lemmas.List.{length-map}
use lib.Count.{ones_step}
use mir.Val.{bool_byte}
use Rattle.lr_conv.specs.declared.marker.TheConstants.{TAIL_SYMBOLS}
use Rattle.lr_lock.specs.Hits.{agreeing, leans_at_polarity, leans}
use Rattle.lr_lock.specs.Planes.{number_of}

-- ---- bit by bit
split : (x : Bool) (m : ℕ) → cond x 1 0 + 2 * m ≡ m * 2 ^ 1 + cond x 1 0
split false m = omega arith
split true m = omega arith

low : (x : Bool) → cond x 1 0 < 2 ^ 1
low false = omega arith
low true = omega arith

and_low : (x y : Bool) → bit_and (cond x 1 0) (cond y 1 0) ≡ cond (x && y) 1 0
and_low false false = refl
and_low false true = refl
and_low true false = refl
and_low true true = refl

or_low : (x y : Bool) → bit_or (cond x 1 0) (cond y 1 0) ≡ cond (x || y) 1 0
or_low false false = refl
or_low false true = refl
or_low true false = refl
or_low true true = refl

and_bits : (x y : Bool) (m n : ℕ) →
    bit_and (cond x 1 0 + 2 * m) (cond y 1 0 + 2 * n) ≡ cond (x && y) 1 0 + 2 * bit_and m n
and_bits x y m n =
    ap (λ a. bit_and a (cond y 1 0 + 2 * n)) (split x m) ∙ ap (λ b. bit_and (m * 2 ^ 1 + cond x 1 0) b) (split y n)
    ∙ and_block 1 m n (cond x 1 0) (cond y 1 0) (low x) (low y) ∙ ap (λ r. bit_and m n * 2 ^ 1 + r) (and_low x y)
    ∙ sym (split (x && y) (bit_and m n))

or_bits : (x y : Bool) (m n : ℕ) → bit_or (cond x 1 0 + 2 * m) (cond y 1 0 + 2 * n) ≡ cond (x || y) 1 0 + 2 * bit_or m n
or_bits x y m n =
    ap (λ a. bit_or a (cond y 1 0 + 2 * n)) (split x m) ∙ ap (λ b. bit_or (m * 2 ^ 1 + cond x 1 0) b) (split y n)
    ∙ or_block 1 m n (cond x 1 0) (cond y 1 0) (low x) (low y) ∙ ap (λ r. bit_or m n * 2 ^ 1 + r) (or_low x y)
    ∙ sym (split (x || y) (bit_or m n))

bits_lowest : (x : Bool) (m : ℕ) → (cond x 1 0 + 2 * m) % 2 ≡ cond x 1 0
bits_lowest false m = omega arith
bits_lowest true m = omega arith

pub bits_rest : (x : Bool) (m : ℕ) → (cond x 1 0 + 2 * m) / 2 ≡ m
bits_rest false m = omega arith
bits_rest true m = omega arith

ones_bits : (x : Bool) (m : ℕ) → count_ones (cond x 1 0 + 2 * m) ≡ cond x 1 0 + count_ones m
ones_bits x m =
    ones_step (cond x 1 0 + 2 * m) ∙ ap (λ r. r + count_ones ((cond x 1 0 + 2 * m) / 2)) (bits_lowest x m)
    ∙ ap (λ q. cond x 1 0 + count_ones q) (bits_rest x m)

-- ---- hits
-- which of two tests is counted, by the tail
abbrev picked : (ℤ → Bool) → (ℤ → Bool) → List Bool → List ℤ → ℕ
picked f g [] symbols = 0
picked f g (one ∷ tail) [] = 0
picked f g (one ∷ tail) (symbol ∷ symbols) = cond (cond one (f symbol) (g symbol)) 1 0 + picked f g tail symbols

pick : (one a b : Bool) → ((a && one) || (b && not one)) ≡ cond one a b
pick true true true = refl
pick true true false = refl
pick true false true = refl
pick true false false = refl
pick false true true = refl
pick false true false = refl
pick false false true = refl
pick false false false = refl

abbrev chosen : (ℤ → Bool) → (ℤ → Bool) → List Bool → List ℤ → ℕ
chosen f g tail symbols =
    bit_or (bit_and (number_of (map f symbols)) (number_of tail))
    (bit_and (number_of (map g symbols)) (number_of (map not tail)))

no_tail : (m n : ℕ) → count_ones (bit_or (bit_and m 0) (bit_and n 0)) ≡ 0
unfolding lib.Count.ones
no_tail m n =
    ap (λ a. count_ones (bit_or a (bit_and n 0))) (and_zero_r m) ∙ ap (λ b. count_ones (bit_or 0 b)) (and_zero_r n)

no_symbols : (m n : ℕ) → count_ones (bit_or (bit_and 0 m) (bit_and 0 n)) ≡ 0
unfolding lib.Count.ones
no_symbols m n = refl

count_picked : (f g : ℤ → Bool) (tail : List Bool) (symbols : List ℤ) →
    count_ones (chosen f g tail symbols) ≡ picked f g tail symbols
count_picked f g [] symbols = no_tail (number_of (map f symbols)) (number_of (map g symbols))
count_picked f g (one ∷ tail) [] = no_symbols (number_of (one ∷ tail)) (number_of (map not (one ∷ tail)))
count_picked f g (one ∷ tail) (symbol ∷ symbols) =
    let a = f symbol in
    let b = g symbol in
    let fs = number_of (map f symbols) in
    let gs = number_of (map g symbols) in
    let t = number_of tail in
    let n = number_of (map not tail) in
    ap (λ x. count_ones (bit_or x (bit_and (cond b 1 0 + 2 * gs) (cond (not one) 1 0 + 2 * n)))) (and_bits a one fs t)
    ∙ ap (λ y. count_ones (bit_or (cond (a && one) 1 0 + 2 * bit_and fs t) y)) (and_bits b (not one) gs n)
    ∙ ap count_ones (or_bits (a && one) (b && not one) (bit_and fs t) (bit_and gs n))
    ∙ ones_bits ((a && one) || (b && not one)) (bit_or (bit_and fs t) (bit_and gs n))
    ∙ ap (λ x. cond x 1 0 + count_ones (bit_or (bit_and fs t) (bit_and gs n))) (pick one a b)
    ∙ ap (λ k. cond (cond one a b) 1 0 + k) (count_picked f g tail symbols)

upright : (one : Bool) (symbol : ℤ)
    → cond one (leans true symbol) (leans false symbol) ≡ leans_at_polarity true one symbol
upright true symbol = refl
upright false symbol = refl

turned_value : (one : Bool) (symbol : ℤ)
    → cond one (leans false symbol) (leans true symbol) ≡ leans_at_polarity false one symbol
turned_value true symbol = refl
turned_value false symbol = refl

picked_true : (tail : List Bool) (symbols : List ℤ) →
    picked (leans true) (leans false) tail symbols ≡ agreeing true tail symbols
picked_true [] symbols = refl
picked_true (one ∷ tail) [] = refl
picked_true (one ∷ tail) (symbol ∷ symbols) =
    ap (λ x. cond x 1 0 + picked (leans true) (leans false) tail symbols) (upright one symbol)
    ∙ ap (λ k. cond (leans_at_polarity true one symbol) 1 0 + k) (picked_true tail symbols)

picked_false : (tail : List Bool) (symbols : List ℤ) →
    picked (leans false) (leans true) tail symbols ≡ agreeing false tail symbols
picked_false [] symbols = refl
picked_false (one ∷ tail) [] = refl
picked_false (one ∷ tail) (symbol ∷ symbols) =
    ap (λ x. cond x 1 0 + picked (leans false) (leans true) tail symbols) (turned_value one symbol)
    ∙ ap (λ k. cond (leans_at_polarity false one symbol) 1 0 + k) (picked_false tail symbols)

pub hits_are : (tail : List Bool) (symbols : List ℤ) → count_ones
    (bit_or (bit_and (number_of (map (leans true) symbols)) (number_of tail))
    (bit_and (number_of (map (leans false) symbols)) (number_of (map not tail)))) ≡ agreeing true tail symbols
hits_are tail symbols = count_picked (leans true) (leans false) tail symbols ∙ picked_true tail symbols

pub opposite_are : (tail : List Bool) (symbols : List ℤ) →
    count_ones (bit_or (bit_and (number_of (map (leans false) symbols)) (number_of tail))
    (bit_and (number_of (map (leans true) symbols)) (number_of (map not tail)))) ≡ agreeing false tail symbols
opposite_are tail symbols = count_picked (leans false) (leans true) tail symbols ∙ picked_false tail symbols

-- ---- bounds, and a bit after the others
pub number_below : (bits : List Bool) → number_of bits < 2 ^ length bits
number_below [] = omega arith
number_below (one ∷ bits) = let l = low one in omega (arith, number_below bits, pow-suc 2 (length bits), l)

pub number_behind : (bits : List Bool) (one : Bool) →
    number_of (bits ++ one ∷ []) ≡ cond one 1 0 * 2 ^ length bits + number_of bits
number_behind [] false = refl
number_behind [] true = refl
number_behind (b ∷ bits) false = omega (arith, number_behind bits false)
number_behind (b ∷ bits) true = omega (arith, number_behind bits true, pow-suc 2 (length bits))

-- a number of so few bits fits
pub number_fits : (bits : List Bool) → length bits ≤ TAIL_SYMBOLS → number_of bits < 2 ^ TAIL_SYMBOLS
number_fits bits few =
    omega (arith, number_below bits, pow-le-pow_right {n = 2} (omega arith) {i = length bits} {j = TAIL_SYMBOLS} few)

pub moved_is : (above r : ℕ) (first one : Bool) (rest : List Bool) → length rest ≡ (TAIL_SYMBOLS - 1) →
    above ≡ number_of (first ∷ rest) → r ≡ cond one 1 0 →
    bit_or (above / 2) (r * 2 ^ 51 % 2 ^ 64) ≡ number_of (rest ++ one ∷ [])
moved_is above r first one rest size e f =
    let half : above / 2 ≡ number_of rest = ap (λ n. n / 2) e ∙ bits_rest first (number_of rest) in
    let small : number_of rest < 2 ^ (TAIL_SYMBOLS - 1) =
    subst (λ n. number_of rest < 2 ^ n) size (number_below rest) in
    let l = low one in
    let fits : r * 2 ^ 51 % 2 ^ 64 ≡ cond one 1 0 * 2 ^ (TAIL_SYMBOLS - 1) = omega arith in
    ap (λ n. bit_or n (r * 2 ^ 51 % 2 ^ 64)) half ∙ ap (bit_or (number_of rest)) fits
    ∙ or_shifted_r (cond one 1 0) (TAIL_SYMBOLS - 1) (number_of rest) small
    ∙ ap (λ n. cond one 1 0 * 2 ^ n + number_of rest) (sym size) ∙ sym (number_behind rest one)

pub rest_fits : {X : Type 0} (f : X → Bool) (xs : List X) (i : ℕ) → length xs ≤ TAIL_SYMBOLS →
    number_of (map f (drop i xs)) < 2 ^ TAIL_SYMBOLS
rest_fits f xs i few = number_fits (map f (drop i xs)) (omega (arith, length-map (drop i xs) f, length-drop i xs))

pub byte_low : (one : Bool) → bool_byte one ≤ 1
byte_low false = omega arith
byte_low true = omega arith

pub byte_is : (one : Bool) → bool_byte one ≡ cond one 1 0
byte_is false = refl
byte_is true = refl

pub doubled_fits : (n : ℕ) → n < 2 ^ TAIL_SYMBOLS → Fits w64 (2 * n)
doubled_fits n l = record { fits = omega arith }

pub more_fits : (n r : ℕ) (one : Bool) → n < 2 ^ TAIL_SYMBOLS → r ≡ bool_byte one → Fits w64 (2 * n + r)
more_fits n r one l e = record { fits = omega (arith, byte_low one) }
