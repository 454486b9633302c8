-- Powers, and the tables of the powers of x and of their exponents.
use Rattle.std.proofs.Common.{◌≡◌, ◌≢◌, ℕ, zero, suc, ◌+◌, ◌-◌, ◌*◌, ◌/◌, ◌%◌, ◌<◌, Bool, true, ◌&&◌, eqb, ltb, List}
use Rattle.std.proofs.Common.{[], ◌∷◌, length, get_or, take, ◌++◌, refl, sym, ap, ◌∙◌, arith, add-zero, zero-add}
use Rattle.std.proofs.Common.{add-one}
use Rattle.std.proofs.Math.Nat.{mul-suc}
use Rattle.std.specs.Int.Bits.{bit_xor, xor_assoc, xor_zero_r}
use Rattle.std.proofs.lemmas.Bool.{eqb-true, ltb-true}
use Rattle.lr_gf.specs.Sums.{sum_of}
use Rattle.lr_gf.specs.Field.{product, remainder, times, power, value_of}
use Rattle.lr_gf.specs.declared.tables.TheConstants.{EXP, LOG}
use Rattle.lr_gf.proofs.Tests.{all_below, all_below-at, both-left, both-right}
use Rattle.lr_gf.proofs.Laws.{times-lt, times-comm, times-assoc, one-times, times-zero-left, times-zero-right}
use Rattle.lr_gf.proofs.Laws.{times-add-left, group}
use Rattle.std.proofs.lemmas.List.{length_push, take_more}

pub power-lt : (a n : ℕ) → a < 256 → power a n < 256
unfolding power
power-lt a zero h = omega arith
power-lt a (suc n) h = times-lt (power a n) a (power-lt a n h) h

pub times-one : (a : ℕ) → a < 256 → times a 1 ≡ a
times-one a h = times-comm a 1 h (omega arith) ∙ one-times a h

pub power-add : (a m n : ℕ) → a < 256 → power a (m + n) ≡ times (power a m) (power a n)
unfolding power
power-add a m zero h = rw add-zero (sym (times-one (power a m) (power-lt a m h)))
power-add a m (suc n) h =
    let e : m + suc n ≡ suc (m + n) = omega arith in
    rw e (ap (λ x. times x a) (power-add a m n h) ∙ times-assoc (power a m) (power a n) a (power-lt a m h)
    (power-lt a n h) h)

pub power-mul : (a m n : ℕ) → a < 256 → power a (m * n) ≡ power (power a m) n
unfolding power
power-mul a m zero h = let e : m * 0 ≡ 0 = omega arith in rw e refl
power-mul a m (suc n) h =
    let e : m * suc n ≡ m * n + m = mul-suc m n in
    rw e (power-add a (m * n) m h ∙ ap (λ x. times x (power a m)) (power-mul a m n h))

pub power-one : (n : ℕ) → power 1 n ≡ 1
unfolding power
power-one zero = refl
power-one (suc n) = ap (λ x. times x 1) (power-one n) ∙ one-times 1 (omega arith)

pub power-zero : (n : ℕ) → n ≢ 0 → power 0 n ≡ 0
unfolding power
power-zero zero h = absurd (h refl)
power-zero (suc n) h = times-zero-right (power 0 n)

-- the list has the powers of a, from that which is x on
follows : ℕ → ℕ → List ℕ → Bool
follows a x [] = true
follows a x (y ∷ ys) = eqb y x && follows a (times y a) ys

follows-at : (a m : ℕ) (ys : List ℕ) → follows a (power a m) ys ≡ true → (i : ℕ) → i < length ys
    → get_or ys i 0 ≡ power a (m + i)
unfolding follows power
follows-at a m [] h i k = absurd (omega arith)
follows-at a m (y ∷ ys) h zero k =
    rw add-zero (eqb-true y (power a m) (both-left (eqb y (power a m)) (follows a (times y a) ys) h))
follows-at a m (y ∷ ys) h (suc i) k =
    let e : y ≡ power a m = eqb-true y (power a m) (both-left (eqb y (power a m)) (follows a (times y a) ys) h) in
    let rest : follows a (times y a) ys ≡ true = both-right (eqb y (power a m)) (follows a (times y a) ys) h in
    let f : m + suc i ≡ suc m + i = omega arith in
    rw f (follows-at a (suc m) ys (rw e at rest) i (omega arith))

exp-test : follows 2 1 EXP ≡ true
unfolding follows times product remainder sum_of
exp-test = refl

order-test : power 2 255 ≡ 1
unfolding power times product remainder sum_of
order-test = refl

log_fits : ℕ → Bool
log_fits a = eqb (get_or EXP (get_or LOG (suc a) 0) 0) (suc a) && ltb (get_or LOG (suc a) 0) 255

log-test : all_below 255 log_fits ≡ true
unfolding all_below log_fits
log-test = refl

pub exp-is : (i : ℕ) → i < 510 → get_or EXP i 0 ≡ power 2 i
unfolding power
exp-is i h = follows-at 2 0 EXP exp-test i h ∙ ap (power 2) (zero-add i)

pub log-below : (a : ℕ) → a ≢ 0 → a < 256 → get_or LOG a 0 < 255
unfolding log_fits
log-below zero p h = absurd (p refl)
log-below (suc a) p h =
    ltb-true (get_or LOG (suc a) 0) 255
    (both-right (eqb (get_or EXP (get_or LOG (suc a) 0) 0) (suc a)) (ltb (get_or LOG (suc a) 0) 255)
    (all_below-at 255 log_fits log-test a (omega arith)))

pub log-is : (a : ℕ) → a ≢ 0 → a < 256 → power 2 (get_or LOG a 0) ≡ a
unfolding log_fits
log-is zero p h = absurd (p refl)
log-is (suc a) p h =
    sym (exp-is (get_or LOG (suc a) 0) (omega (arith, log-below (suc a) p h)))
    ∙ eqb-true (get_or EXP (get_or LOG (suc a) 0) 0) (suc a)
    (both-left (eqb (get_or EXP (get_or LOG (suc a) 0) 0) (suc a)) (ltb (get_or LOG (suc a) 0) 255)
    (all_below-at 255 log_fits log-test a (omega arith)))

-- the first 255 powers of x are different
exponent_back : ℕ → Bool
exponent_back n = eqb (get_or LOG (get_or EXP n 0) 0) n

exponent-test : all_below 255 exponent_back ≡ true
unfolding all_below exponent_back
exponent-test = refl

exponent-is : (n : ℕ) → n < 255 → get_or LOG (power 2 n) 0 ≡ n
unfolding exponent_back
exponent-is n h =
    ap (λ a. get_or LOG a 0) (sym (exp-is n (omega arith)))
    ∙ eqb-true (get_or LOG (get_or EXP n 0) 0) n (all_below-at 255 exponent_back exponent-test n h)

pub same_exponent : (m n : ℕ) → m < 255 → n < 255 → power 2 m ≡ power 2 n → m ≡ n
same_exponent m n h k e = sym (exponent-is m h) ∙ ap (λ a. get_or LOG a 0) e ∙ exponent-is n k

-- the powers of x come round after 255
pub power-round : (k : ℕ) → power 2 k ≡ power 2 (k % 255)
power-round k =
    let q : ℕ = k / 255 in
    let r : ℕ = k % 255 in
    let e : k ≡ 255 * (k / 255) + k % 255 = omega arith in
    ap (power 2) e ∙ power-add 2 (255 * (k / 255)) (k % 255) (omega arith)
    ∙ ap (λ x. times x (power 2 (k % 255))) (power-mul 2 255 (k / 255) (omega arith)
    ∙ ap (λ x. power x (k / 255)) order-test ∙ power-one (k / 255))
    ∙ one-times (power 2 (k % 255)) (power-lt 2 (k % 255) (omega arith))

-- the products, powers and inverses that the tables give
pub product_by_exponents : (a b i j : ℕ) → power 2 i ≡ a → power 2 j ≡ b → power 2 (i + j) ≡ times a b
product_by_exponents a b i j p q = power-add 2 i j (omega arith) ∙ ap (λ x. times x (power 2 j)) p ∙ ap (times a) q

pub power_by_exponents : (a i n : ℕ) → power 2 i ≡ a → power 2 (i * n % 255) ≡ power a n
power_by_exponents a i n p = sym (power-round (i * n)) ∙ power-mul 2 i n (omega arith) ∙ ap (λ x. power x n) p

pub inverse_by_exponents : (a i : ℕ) → i < 255 → power 2 i ≡ a → times a (power 2 (255 - i)) ≡ 1
inverse_by_exponents a i h p =
    let e : i + (255 - i) ≡ 255 = omega arith in
    ap (λ x. times x (power 2 (255 - i))) (sym p) ∙ sym (power-add 2 i (255 - i) (omega arith)) ∙ ap (power 2) e
    ∙ order-test

-- each element but 0 has an inverse
pub inverse_of : (a : ℕ) → a ≢ 0 → a < 256 → (b : ℕ) × (b < 256) × (times a b ≡ 1)
inverse_of a p h = (
  power 2 (255 - get_or LOG a 0),
  power-lt 2 (255 - get_or LOG a 0) (omega arith),
  inverse_by_exponents a (get_or LOG a 0) (log-below a p h) (log-is a p h),
)

-- a product is 0 only where one of its factors is
pub times-nonzero : (a b : ℕ) → a < 256 → b < 256 → a ≢ 0 → times a b ≡ 0 → b ≡ 0
times-nonzero a b p q ne h =
    let v = inverse_of a ne p in
    sym (one-times b q) ∙ ap (λ x. times x b) (sym v.2 ∙ times-comm a v.0 p v.1)
    ∙ times-assoc v.0 a b v.1 p q ∙ ap (times v.0) h ∙ times-zero-right v.0

-- ---- Horner's rule
pub value-push : (cs : List ℕ) (c x : ℕ) → c < 256 → value_of (cs ++ c ∷ []) x ≡ bit_xor (times (value_of cs x) x) c
unfolding value_of power
value-push [] c x h =
    xor_zero_r (times c 1) ∙ times-one c h ∙ sym (ap (λ z. bit_xor z c) (times-zero-left x))
value-push (a ∷ cs) c x h =
    let n : length (cs ++ c ∷ []) ≡ suc (length cs) = length_push cs c ∙ add-one (length cs) in
    ap (λ m. bit_xor (times a (power x m)) (value_of (cs ++ c ∷ []) x)) n
    ∙ ap (bit_xor (times a (times (power x (length cs)) x))) (value-push cs c x h)
    ∙ ap (λ z. bit_xor z (bit_xor (times (value_of cs x) x) c)) (sym (group a (power x (length cs)) x))
    ∙ sym (xor_assoc (times (times a (power x (length cs))) x) (times (value_of cs x) x) c)
    ∙ ap (λ z. bit_xor z c) (sym (times-add-left (times a (power x (length cs))) (value_of cs x) x))

pub horner-more : (cs : List ℕ) (i item sum x : ℕ) → i < length cs → item ≡ get_or cs i item
    → sum ≡ value_of (take i cs) x
    → item < 256 → bit_xor (times sum x) item ≡ value_of (take (i + 1) cs) x
horner-more cs i item sum x h e s small =
    ap (λ z. bit_xor (times z x) item) s
    ∙ sym (value-push (take i cs) item x small)
    ∙ ap (λ l. value_of l x) (ap (λ z. take i cs ++ z ∷ []) e ∙ sym (take_more cs i item h))
