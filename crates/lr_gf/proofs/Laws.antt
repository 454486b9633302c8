-- The laws of the field. A law that is linear in each of its elements holds if it holds at the
-- eight powers of two.
use Rattle.std.proofs.Common.{◌≡◌, ℕ, zero, suc, ◌+◌, ◌*◌, ◌/◌, ◌%◌, ◌^◌, ◌<◌, Bool, true, eqb, ltb, refl, sym, ap}
use Rattle.std.proofs.Common.{◌∙◌, subst, arith}
use Rattle.std.proofs.lemmas.Nat.Bits.{bit_at-lt, bit_at_cat_low}
use Rattle.std.specs.Int.{bit_at}
use Rattle.std.specs.Int.Bits.{bit_xor}
use Rattle.std.proofs.lemmas.Bool.{eqb-true, ltb-true}
use Rattle.std.proofs.lemmas.Nat.{div-add-mod'}
use Rattle.lr_gf.proofs.SumLaws.{sum_of-same}
use Rattle.lr_gf.specs.Sums.{sum_of}
use Rattle.lr_gf.specs.Field.{product, remainder, times}
use Rattle.lr_gf.proofs.Linear.{Linear, linear-zero, linear-id, linear-after, linear-sum, linear-sum_of, linear-shift}
use Rattle.lr_gf.proofs.Linear.{linear-bit, linear-same, linear-lt, linear-scale, linear-low}
use Rattle.lr_gf.proofs.Tests.{all_below, all_below-at}

linear-product-left : (b : ℕ) → Linear (λ a. product a b)
unfolding product
linear-product-left b =
    linear-sum_of 8 (λ i a. bit_at b i * (a % 256 * 2 ^ i))
    (λ i. linear-after (λ x. bit_at b i * x) (λ a. a % 256 * 2 ^ i) (linear-scale (bit_at b i) (bit_at-lt b i))
    (linear-after (λ a. a * 2 ^ i) (λ a. a % 256) (linear-shift i) linear-low))

linear-product-right : (a : ℕ) → Linear (λ b. product a b)
unfolding product
linear-product-right a = linear-sum_of 8 (λ i b. bit_at b i * (a % 256 * 2 ^ i)) (λ i. linear-bit i (a % 256 * 2 ^ i))

linear-remainder : (n : ℕ) → Linear (remainder n)
unfolding remainder
linear-remainder zero = linear-id
linear-remainder (suc n) =
    linear-after (remainder n) (λ p. bit_xor p (bit_at p (8 + n) * (0x187 * 2 ^ n))) (linear-remainder n)
    (linear-sum (λ p. p) (λ p. bit_at p (8 + n) * (0x187 * 2 ^ n)) linear-id (linear-bit (8 + n) (0x187 * 2 ^ n)))

pub linear-times-left : (b : ℕ) → Linear (λ a. times a b)
unfolding times
linear-times-left b = linear-after (remainder 7) (λ a. product a b) (linear-remainder 7) (linear-product-left b)

pub linear-times-right : (a : ℕ) → Linear (λ b. times a b)
unfolding times
linear-times-right a = linear-after (remainder 7) (λ b. product a b) (linear-remainder 7) (linear-product-right a)

-- ---- the tests, of 64 pairs, 512 triples and 255 elements
commute-test : all_below 8 (λ i. all_below 8 (λ j. eqb (times (2 ^ i) (2 ^ j)) (times (2 ^ j) (2 ^ i)))) ≡ true
unfolding times product remainder sum_of all_below
commute-test = refl

below-test : all_below 8 (λ i. all_below 8 (λ j. ltb (times (2 ^ i) (2 ^ j)) (2 ^ 8))) ≡ true
unfolding times product remainder sum_of all_below
below-test = refl

assoc-test : all_below 8
    (λ i. all_below 8 (λ j. all_below 8 (λ k. eqb (times (times (2 ^ i) (2 ^ j)) (2 ^ k))
    (times (2 ^ i) (times (2 ^ j) (2 ^ k)))))) ≡ true
unfolding times product remainder sum_of all_below
assoc-test = refl

one-test : all_below 8 (λ i. eqb (times 1 (2 ^ i)) (2 ^ i)) ≡ true
unfolding times product remainder sum_of all_below
one-test = refl

-- ---- the laws
pub times-lt : (a b : ℕ) → a < 256 → b < 256 → times a b < 256
times-lt a b p q =
    linear-lt 8 8 (λ x. times x b) (linear-times-left b)
    (λ i h. linear-lt 8 8 (λ y. times (2 ^ i) y) (linear-times-right (2 ^ i))
    (λ j k. ltb-true (times (2 ^ i) (2 ^ j)) (2 ^ 8) (all_below-at 8 (λ j. ltb (times (2 ^ i) (2 ^ j)) (2 ^ 8))
    (all_below-at 8 (λ i. all_below 8 (λ j. ltb (times (2 ^ i) (2 ^ j)) (2 ^ 8))) below-test i h) j k))
    b q)
    a p

pub times-comm : (a b : ℕ) → a < 256 → b < 256 → times a b ≡ times b a
times-comm a b p q =
    linear-same 8 (λ x. times x b) (λ x. times b x) (linear-times-left b) (linear-times-right b)
    (λ i h. linear-same 8 (λ y. times (2 ^ i) y) (λ y. times y (2 ^ i)) (linear-times-right (2 ^ i))
    (linear-times-left (2 ^ i))
    (λ j k. eqb-true (times (2 ^ i) (2 ^ j)) (times (2 ^ j) (2 ^ i))
    (all_below-at 8 (λ j. eqb (times (2 ^ i) (2 ^ j)) (times (2 ^ j) (2 ^ i)))
    (all_below-at 8 (λ i. all_below 8 (λ j. eqb (times (2 ^ i) (2 ^ j)) (times (2 ^ j) (2 ^ i)))) commute-test i h)
    j k))
    b q)
    a p

assoc-powers : (i j k : ℕ) → i < 8 → j < 8 → k < 8
    → times (times (2 ^ i) (2 ^ j)) (2 ^ k) ≡ times (2 ^ i) (times (2 ^ j) (2 ^ k))
assoc-powers i j k p q r =
    let P : ℕ → ℕ → ℕ → Bool =
    λ i j k. eqb (times (times (2 ^ i) (2 ^ j)) (2 ^ k)) (times (2 ^ i) (times (2 ^ j) (2 ^ k))) in
    eqb-true (times (times (2 ^ i) (2 ^ j)) (2 ^ k)) (times (2 ^ i) (times (2 ^ j) (2 ^ k)))
    (all_below-at 8 (λ k. P i j k) (all_below-at 8 (λ j. all_below 8 (λ k. P i j k))
    (all_below-at 8 (λ i. all_below 8 (λ j. all_below 8 (λ k. P i j k))) assoc-test i p) j q) k r)

pub times-assoc : (a b c : ℕ) → a < 256 → b < 256 → c < 256 → times (times a b) c ≡ times a (times b c)
times-assoc a b c p q r =
    linear-same 8 (λ x. times (times x b) c) (λ x. times x (times b c))
    (linear-after (λ x. times x c) (λ x. times x b) (linear-times-left c) (linear-times-left b))
    (linear-times-left (times b c))
    (λ i h. linear-same 8 (λ y. times (times (2 ^ i) y) c) (λ y. times (2 ^ i) (times y c))
    (linear-after (λ x. times x c) (λ y. times (2 ^ i) y) (linear-times-left c) (linear-times-right (2 ^ i)))
    (linear-after (λ x. times (2 ^ i) x) (λ y. times y c) (linear-times-right (2 ^ i)) (linear-times-left c))
    (λ j k. linear-same 8 (λ z. times (times (2 ^ i) (2 ^ j)) z) (λ z. times (2 ^ i) (times (2 ^ j) z))
    (linear-times-right (times (2 ^ i) (2 ^ j)))
    (linear-after (λ x. times (2 ^ i) x) (λ z. times (2 ^ j) z) (linear-times-right (2 ^ i))
    (linear-times-right (2 ^ j)))
    (λ m n. assoc-powers i j m h k n) c r)
    b q)
    a p

pub times-add-left : (a b c : ℕ) → times (bit_xor a b) c ≡ bit_xor (times a c) (times b c)
times-add-left a b c = (linear-times-left c).additive a b

pub times-add-right : (a b c : ℕ) → times a (bit_xor b c) ≡ bit_xor (times a b) (times a c)
times-add-right a b c = (linear-times-right a).additive b c

pub times-zero-left : (a : ℕ) → times 0 a ≡ 0
times-zero-left a = linear-zero (λ x. times x a) (linear-times-left a)

pub times-zero-right : (a : ℕ) → times a 0 ≡ 0
times-zero-right a = linear-zero (λ x. times a x) (linear-times-right a)

pub one-times : (a : ℕ) → a < 256 → times 1 a ≡ a
one-times a h =
    linear-same 8 (λ x. times 1 x) (λ x. x) (linear-times-right 1) linear-id
    (λ i k. eqb-true (times 1 (2 ^ i)) (2 ^ i) (all_below-at 8 (λ i. eqb (times 1 (2 ^ i)) (2 ^ i)) one-test i k)) a h

-- ---- the same with no premise: only the lowest eight bits count
low-left : (a b : ℕ) → times a b ≡ times (a % 256) b
unfolding times product
low-left a b = let e : a % 256 % 256 ≡ a % 256 = omega arith in rw e refl

low-bit : (b i : ℕ) → i < 8 → bit_at b i ≡ bit_at (b % 256) i
low-bit b i h =
    let e : b / 2 ^ 8 * 2 ^ 8 + b % 2 ^ 8 ≡ b = div-add-mod' b (2 ^ 8) in
    ap (λ n. bit_at n i) (sym e) ∙ bit_at_cat_low (b / 2 ^ 8) 8 (b % 2 ^ 8) i h

low-right : (a b : ℕ) → times a b ≡ times a (b % 256)
unfolding times product
low-right a b =
    ap (remainder 7) (sum_of-same 8 (λ i. bit_at b i * (a % 256 * 2 ^ i)) (λ i. bit_at (b % 256) i * (a % 256 * 2 ^ i))
    (λ i h. ap (λ n. n * (a % 256 * 2 ^ i)) (low-bit b i h)))

low-lt : (a : ℕ) → a % 256 < 256
low-lt a = omega arith

low-both : (a b : ℕ) → times a b ≡ times (a % 256) (b % 256)
low-both a b = low-left a b ∙ low-right (a % 256) b

pub below : (a b : ℕ) → times a b < 256
below a b = subst (λ (n : ℕ). n < 256) (sym (low-both a b)) (times-lt (a % 256) (b % 256) (low-lt a) (low-lt b))

pub commute : (a b : ℕ) → times a b ≡ times b a
commute a b = low-both a b ∙ times-comm (a % 256) (b % 256) (low-lt a) (low-lt b) ∙ sym (low-both b a)

pub group : (a b c : ℕ) → times (times a b) c ≡ times a (times b c)
group a b c =
    low-right (times a b) c ∙ ap (λ n. times n (c % 256)) (low-both a b)
    ∙ times-assoc (a % 256) (b % 256) (c % 256) (low-lt a) (low-lt b) (low-lt c)
    ∙ sym (low-left a (times b c) ∙ ap (times (a % 256)) (low-both b c))
