-- The division by the generator polynomial keeps the values at the roots of the code.
use Rattle.std.proofs.Common.{◌≡◌, ℕ, suc, ◌+◌, ◌-◌, ◌*◌, ◌/◌, ◌%◌, ◌^◌, ◌<◌, Bool, true, eqb, ltb, List, [], ◌∷◌}
use Rattle.std.proofs.Common.{◌++◌, length, get_or, map, reverse, All, refl, sym, ap, ◌∙◌, subst, arith, inl, inr}
use Rattle.std.proofs.Common.{add-one, zero-add}
use Rattle.std.specs.Int.Bits.{bit_xor, xor_assoc, xor_comm, xor_shifted, xor_lt}
use Rattle.std.specs.List.{range_with_len}
use Rattle.std.proofs.lemmas.Bool.{cases_eq, cases_lt, eqb-true, ltb-true}
use Rattle.std.proofs.lemmas.Nat.{mod_below}
use Rattle.std.proofs.lemmas.List.{length_push, get_or_push, get_or_append_left, get_or_past}
use Rattle.std.proofs.lemmas.List.FromFn.{get_or-map-range_with_len}
use Rattle.std.proofs.lemmas.List.Elements.{All-get_or, All-from_get_or}
use Rattle.lr_gf.specs.Sums.{sum_of}
use Rattle.lr_gf.specs.Field.{product, remainder, times, power, value_of}
use Rattle.lr_gf.proofs.Tests.{all_below, all_below-at}
use Rattle.lr_gf.proofs.Laws.{below, group, times-add-left, linear-times-right, one-times}
use Rattle.lr_gf.proofs.SumLaws.{sum_of-same, sum_of-add, sum_of-linear, same_from_sum, weight-zero}
use Rattle.lr_gf.proofs.Powers.{power-lt, power-round, value-push}
use Rattle.lr_gf.proofs.Roots.{low, low-reverse, roots_of_value}
use Rattle.lr_gf.proofs.Values.{value_as_sum, value-zeros}
use Rattle.lr_gf.proofs.Vanishing.{AreNodes, power-nonzero}
use Rattle.lr_rs.specs.declared.generator.TheConstants.{LOW_PRODUCTS, HIGH_PRODUCTS}
use Rattle.lr_rs.specs.Words.{word_value, locator, IsCodeword}
use Rattle.lr_rs.specs.Division.{generator_coefficient, IsDivisionStep, IsWordRemainder}
use Rattle.lr_rs.proofs.Locators.{locators}
use Rattle.lr_rs.specs.declared.sizes.TheConstants.{CHECK_BYTES}

-- ---- the tables
low_product : ℕ → ℕ
low_product n = times (n / 32) (generator_coefficient (n % 32))

high_product : ℕ → ℕ
high_product n = times (16 * (n / 32)) (generator_coefficient (n % 32))

low-test : LOW_PRODUCTS ≡ map low_product (range_with_len 0 512)
unfolding low_product generator_coefficient times product remainder sum_of
low-test = refl

high-test : HIGH_PRODUCTS ≡ map high_product (range_with_len 0 512)
unfolding high_product generator_coefficient times product remainder sum_of
high-test = refl

row-of : (a k : ℕ) → k < CHECK_BYTES → (32 * a + k) / 32 ≡ a
row-of a k h = omega arith

column-of : (a k : ℕ) → k < CHECK_BYTES → (32 * a + k) % 32 ≡ k
column-of a k h = omega arith

low-is : (a k : ℕ) → a < 16 → k < CHECK_BYTES → get_or LOW_PRODUCTS (32 * a + k) 0 ≡ times a (generator_coefficient k)
unfolding low_product
low-is a k h j =
    ap (λ t. get_or t (32 * a + k) 0) low-test
    ∙ get_or-map-range_with_len low_product 0 512 (32 * a + k) (32 * a + k) 0 (omega arith) (zero-add (32 * a + k))
    ∙ ap (λ r. times r (generator_coefficient ((32 * a + k) % 32))) (row-of a k j)
    ∙ ap (λ c. times a (generator_coefficient c)) (column-of a k j)

high-is : (a k : ℕ) → a < 16 → k < CHECK_BYTES → get_or HIGH_PRODUCTS (32 * a + k) 0 ≡ times (16 * a)
    (generator_coefficient k)
unfolding high_product
high-is a k h j =
    ap (λ t. get_or t (32 * a + k) 0) high-test
    ∙ get_or-map-range_with_len high_product 0 512 (32 * a + k) (32 * a + k) 0 (omega arith) (zero-add (32 * a + k))
    ∙ ap (λ r. times (16 * r) (generator_coefficient ((32 * a + k) % 32))) (row-of a k j)
    ∙ ap (λ c. times (16 * a) (generator_coefficient c)) (column-of a k j)

-- an element by its two halves
halves : (a : ℕ) → bit_xor (a % 16) (16 * (a / 16)) ≡ a
halves a =
    let shifted : bit_xor (a / 16 * 2 ^ 4) (a % 16) ≡ a / 16 * 2 ^ 4 + a % 16 =
    xor_shifted (a / 16) 4 (a % 16) (mod_below a 16 (omega arith)) in
    let turned : 16 * (a / 16) ≡ a / 16 * 2 ^ 4 = omega arith in
    xor_comm (a % 16) (16 * (a / 16)) ∙ ap (λ z. bit_xor z (a % 16)) turned ∙ shifted ∙ omega arith

pub product-is : (a k : ℕ) → a < 256 → k < CHECK_BYTES
    → bit_xor (get_or LOW_PRODUCTS (32 * (a % 16) + k) 0) (get_or HIGH_PRODUCTS (32 * (a / 16) + k) 0)
    ≡ times a (generator_coefficient k)
product-is a k h j =
    ap (λ z. bit_xor z (get_or HIGH_PRODUCTS (32 * (a / 16) + k) 0)) (low-is (a % 16) k (omega arith) j)
    ∙ ap (bit_xor (times (a % 16) (generator_coefficient k))) (high-is (a / 16) k (omega arith) j)
    ∙ sym (times-add-left (a % 16) (16 * (a / 16)) (generator_coefficient k))
    ∙ ap (λ z. times z (generator_coefficient k)) (halves a)

-- ---- the generator polynomial is zero at the roots of the code
pub root_at : ℕ → ℕ
root_at j = power 2 (11 * (112 + j))

pub root_at-is : (j : ℕ) → root_at j ≡ power 2 (11 * (112 + j))
unfolding root_at
root_at-is j = refl

root-lt : (j : ℕ) → root_at j < 256
unfolding root_at
root-lt j = power-lt 2 (11 * (112 + j)) (omega arith)

-- its coefficients, the highest first, without that of x^32; they read the same from the end
tail_coefficients : List ℕ
tail_coefficients = 0x5B ∷ 0x7F ∷ 0x56 ∷ 0x10 ∷ 0x1E ∷ 0x0D ∷ 0xEB ∷ 0x61 ∷ 0xA5 ∷ 0x08 ∷ 0x2A ∷ 0x36 ∷ 0x56
    ∷ 0xAB ∷ 0x20 ∷ 0x71 ∷ 0x20 ∷ 0xAB ∷ 0x56 ∷ 0x36 ∷ 0x2A ∷ 0x08 ∷ 0xA5 ∷ 0x61 ∷ 0xEB ∷ 0x0D ∷ 0x1E ∷ 0x10
    ∷ 0x56 ∷ 0x7F ∷ 0x5B ∷ 0x01 ∷ []

is_zero_at : ℕ → Bool
is_zero_at j = eqb (low (1 ∷ tail_coefficients) (power 2 (11 * (112 + j) % 255))) 0

roots-test : all_below 32 is_zero_at ≡ true
unfolding all_below is_zero_at tail_coefficients low power times product remainder sum_of
roots-test = refl

palindrome : reverse (1 ∷ tail_coefficients) ≡ 1 ∷ tail_coefficients
unfolding tail_coefficients
palindrome = refl

fits : ℕ → Bool
fits i = ltb (get_or (1 ∷ tail_coefficients) i 0) 256

fits-test : all_below 33 fits ≡ true
unfolding all_below fits tail_coefficients
fits-test = refl

tail-long : length tail_coefficients ≡ CHECK_BYTES
unfolding tail_coefficients
tail-long = refl

bytes : All (λ c. c < 256) (1 ∷ tail_coefficients)
unfolding fits
bytes = All-from_get_or (λ c. c < 256) (1 ∷ tail_coefficients) 0
    (λ i h. ltb-true (get_or (1 ∷ tail_coefficients) i 0) 256
    (all_below-at 33 fits fits-test i (omega (arith, tail-long))))

value-first : (c x : ℕ) (cs : List ℕ) → value_of (c ∷ cs) x ≡ bit_xor (times c (power x (length cs))) (value_of cs x)
unfolding value_of
value-first c x cs = refl

power-suc : (a n : ℕ) → power a (suc n) ≡ times (power a n) a
unfolding power
power-suc a n = refl

root-power : (j : ℕ) → j < CHECK_BYTES → power 2 (11 * (112 + j) % 255) ≡ root_at j
unfolding root_at
root-power j h = sym (power-round (11 * (112 + j)))

-- so x^32 has the value of the other terms
generator-value : (j : ℕ) → j < CHECK_BYTES → value_of tail_coefficients (root_at j) ≡ power (root_at j) 32
unfolding is_zero_at
generator-value j h =
    let zero_low : low (1 ∷ tail_coefficients) (root_at j) ≡ 0 =
    ap (low (1 ∷ tail_coefficients)) (sym (root-power j h))
    ∙ eqb-true (low (1 ∷ tail_coefficients) (power 2 (11 * (112 + j) % 255))) 0
    (all_below-at 32 is_zero_at roots-test j h) in
    let zero_value : value_of (1 ∷ tail_coefficients) (root_at j) ≡ 0 =
    ap (λ l. value_of l (root_at j)) (sym palindrome)
    ∙ low-reverse (1 ∷ tail_coefficients) (root_at j) bytes (root-lt j) ∙ zero_low in
    sym (same_from_sum (power (root_at j) 32) (value_of tail_coefficients (root_at j))
    (ap (λ z. bit_xor z (value_of tail_coefficients (root_at j)))
    (sym (ap (λ n. times 1 (power (root_at j) n)) tail-long
    ∙ one-times (power (root_at j) 32) (power-lt (root_at j) 32 (root-lt j))))
    ∙ sym (value-first 1 (root_at j) tail_coefficients) ∙ zero_value))

coefficient-is : (k : ℕ) → generator_coefficient k ≡ get_or tail_coefficients k 0
unfolding generator_coefficient tail_coefficients
coefficient-is k = refl

generator-sum : (x : ℕ) → sum_of CHECK_BYTES (λ k. times (generator_coefficient k) (power x (31 - k)))
    ≡ value_of tail_coefficients x
generator-sum x =
    sum_of-same CHECK_BYTES (λ k. times (generator_coefficient k) (power x (31 - k)))
    (λ k. times (get_or tail_coefficients k 0) (power x (31 - k)))
    (λ k h. ap (λ z. times z (power x (31 - k))) (coefficient-is k))
    ∙ sym (value_as_sum tail_coefficients 32 x tail-long)

-- ---- one step of the division
new-at : (first d k : ℕ) (rest new : List ℕ) → length rest ≡ 31 → k < CHECK_BYTES → IsDivisionStep d (first ∷ rest) new
    → get_or new k 0 ≡ bit_xor (get_or (rest ++ d ∷ []) k 0) (times first (generator_coefficient k))
new-at first d k rest new h hk s =
    elim (cases_eq k 31) [
      | inl e ↦
          ap (λ z. get_or new z 0) e ∙ s.last
          ∙ ap (λ z. bit_xor z (times first (generator_coefficient 31))) (sym (get_or_push rest d 0 31 h))
          ∙ ap (λ z. bit_xor (get_or (rest ++ d ∷ []) z 0) (times first (generator_coefficient z))) (sym e)
      | inr ne ↦
          s.next k (omega (arith, ne))
          ∙ ap (λ z. bit_xor z (times first (generator_coefficient k)))
          (ap (λ z. get_or (first ∷ rest) z 0) (add-one k)
          ∙ sym (get_or_append_left rest (d ∷ []) 0 k (omega (arith, ne))))
    ]

-- (b + d) + a = (a + b) + d
rotate : (a b d : ℕ) → bit_xor (bit_xor b d) a ≡ bit_xor (bit_xor a b) d
rotate a b d = xor_comm (bit_xor b d) a ∙ sym (xor_assoc a b d)

stepped : (first d x : ℕ) (rest new : List ℕ) → length rest ≡ 31 → d < 256 → value_of tail_coefficients x ≡ power x 32
    → IsDivisionStep d (first ∷ rest) new → value_of new x ≡ bit_xor (times (value_of (first ∷ rest) x) x) d
stepped first d x rest new h hd g s =
    value_as_sum new 32 x s.long
    ∙ sum_of-same CHECK_BYTES (λ k. times (get_or new k 0) (power x (31 - k)))
    (λ k. bit_xor (times (get_or (rest ++ d ∷ []) k 0) (power x (31 - k)))
    (times first (times (generator_coefficient k) (power x (31 - k)))))
    (λ k l.
    ap (λ z. times z (power x (31 - k))) (new-at first d k rest new h l s)
    ∙ times-add-left (get_or (rest ++ d ∷ []) k 0) (times first (generator_coefficient k)) (power x (31 - k))
    ∙ ap (bit_xor (times (get_or (rest ++ d ∷ []) k 0) (power x (31 - k))))
    (group first (generator_coefficient k) (power x (31 - k))))
    ∙ sum_of-add CHECK_BYTES (λ k. times (get_or (rest ++ d ∷ []) k 0) (power x (31 - k)))
    (λ k. times first (times (generator_coefficient k) (power x (31 - k))))
    ∙ ap (λ z. bit_xor z (sum_of CHECK_BYTES (λ k. times first (times (generator_coefficient k) (power x (31 - k))))))
    (sym (value_as_sum (rest ++ d ∷ []) 32 x (length_push rest d ∙ omega arith)) ∙ value-push rest d x hd)
    ∙ ap (bit_xor (bit_xor (times (value_of rest x) x) d))
    (sum_of-linear CHECK_BYTES (times first) (λ k. times (generator_coefficient k) (power x (31 - k)))
    (linear-times-right first)
    ∙ ap (times first) (generator-sum x ∙ g))
    ∙ rotate (times first (power x 32)) (times (value_of rest x) x) d
    ∙ ap (λ z. bit_xor z d) (sym (whole first x rest h))
  where
    whole : (first x : ℕ) (rest : List ℕ) → length rest ≡ 31
        → times (value_of (first ∷ rest) x) x ≡ bit_xor (times first (power x 32)) (times (value_of rest x) x)
    whole first x rest h =
        ap (λ z. times z x) (value-first first x rest ∙ ap (λ n. bit_xor (times first (power x n)) (value_of rest x)) h)
        ∙ times-add-left (times first (power x 31)) (value_of rest x) x
        ∙ ap (λ z. bit_xor z (times (value_of rest x) x)) (group first (power x 31) x
        ∙ ap (times first) (sym (power-suc x 31)))

pub value-step : (old new : List ℕ) (d j : ℕ) → length old ≡ CHECK_BYTES → d < 256 → j < CHECK_BYTES →
    IsDivisionStep d old new
    → value_of new (root_at j) ≡ bit_xor (times (value_of old (root_at j)) (root_at j)) d
value-step [] new d j h hd hj s = absurd (omega arith)
value-step (first ∷ rest) new d j h hd hj s =
    stepped first d (root_at j) rest new (omega arith) hd (generator-value j hj) s

pub elements-step : (old new : List ℕ) (d : ℕ) → d < 256 → ((k : ℕ) → get_or old k 0 < 256)
    → IsDivisionStep d old new → (k : ℕ) → get_or new k 0 < 256
elements-step old new d hd h s k =
    elim (cases_lt k 31) [
      | inl l ↦
          subst (λ (n : ℕ). n < 256) (sym (s.next k l))
          (xor_lt 8 (get_or old (k + 1) 0) (times (get_or old 0 0) (generator_coefficient k)) (h (k + 1))
          (below (get_or old 0 0) (generator_coefficient k)))
      | inr l ↦ elim (cases_eq k 31) [
        | inl e ↦
            subst (λ (n : ℕ). n < 256) (sym (ap (λ z. get_or new z 0) e ∙ s.last))
            (xor_lt 8 d (times (get_or old 0 0) (generator_coefficient 31)) hd
            (below (get_or old 0 0) (generator_coefficient 31)))
        | inr ne ↦ subst (λ (n : ℕ). n < 256) (sym (get_or_past new k 0 (omega (arith, ne, s.long)))) (omega arith)
      ]
    ]

-- ---- the remainder is 0 at the codewords alone
roots_of_code : AreNodes CHECK_BYTES root_at
unfolding root_at
roots_of_code = record {
  below = λ j h. root-lt j;
  nonzero = λ j h. power-nonzero 2 (11 * (112 + j)) (omega arith) (omega arith);
  different = λ i j hi hj e.
      omega (
        arith,
        locators.different (142 - i) (142 - j) (omega arith) (omega arith) (as_locator i hi ∙ e
            ∙ sym (as_locator j hj)),
      );
}
  where
    as_locator : (j : ℕ) → j < CHECK_BYTES → locator (142 - j) ≡ power 2 (11 * (112 + j))
    as_locator j h = let e : 254 - (142 - j) ≡ 112 + j = omega arith in ap (λ n. power 2 (11 * n)) e

pub codeword_from_values : (word : List ℕ) → ((j : ℕ) → j < CHECK_BYTES → word_value word (root_at j) ≡ 0) →
    IsCodeword word
unfolding root_at
codeword_from_values word h = record {
  zero_at = λ j low high.
      let e : j ≡ 112 + (j - 112) = omega arith in
      ap (λ i. word_value word (power 2 (11 * i))) e ∙ h (j - 112) (omega arith);
}

pub codeword_of_zeros : (word rest : List ℕ) → IsWordRemainder word rest
    → ((k : ℕ) → k < CHECK_BYTES → get_or rest k 0 ≡ 0)
    → IsCodeword word
unfolding root_at
codeword_of_zeros word rest r z =
    codeword_from_values word (λ j h. sym (r.same j h) ∙ value-zeros rest 32 (root_at j) r.long z)

pub zeros_of_codeword : (word rest : List ℕ) → IsWordRemainder word rest → IsCodeword word → (k : ℕ) → k < CHECK_BYTES
    → get_or rest k 0 ≡ 0
unfolding root_at
zeros_of_codeword word rest r code k h =
    All-get_or (λ c. c ≡ 0) rest k 0 (omega (arith, r.long))
    (roots_of_value 32 32 rest root_at r.long roots_of_code
    (All-from_get_or (λ c. c < 256) rest 0 (λ i l. r.elements i))
    (omega (
      arith,
      weight-zero 32 (λ j. value_of rest (root_at j)) (λ j l. r.same j l
          ∙ code.zero_at (112 + j) (omega arith) (omega arith)),
    )))
