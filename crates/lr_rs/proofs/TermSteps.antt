-- The terms of a polynomial of degree 16, led from each locator to the next.
use Rattle.std.proofs.Common.{◌≡◌, ℕ, zero, suc, ◌+◌, ◌-◌, ◌*◌, ◌/◌, ◌%◌, ◌<◌, Bool, true, eqb, List, length, get_or}
use Rattle.std.proofs.Common.{slice_index, map, refl, sym, ap, ◌∙◌, arith, inl, inr, zero-add}
use Rattle.std.specs.List.{range_with_len}
use Rattle.std.proofs.lemmas.Bool.{cases_eq, eqb-true}
use Rattle.std.proofs.lemmas.List.FromFn.{get_or-map-range_with_len}
use Rattle.lr_gf.specs.Sums.{sum_of}
use Rattle.lr_gf.specs.Field.{product, remainder, times, power, value_of}
use Rattle.lr_gf.proofs.Tests.{all_below, all_below-at}
use Rattle.lr_gf.proofs.Laws.{commute, group, one-times}
use Rattle.lr_gf.proofs.SumLaws.{sum_of-same}
use Rattle.lr_gf.proofs.Powers.{power-add, power-one, power-round, times-one}
use Rattle.lr_gf.proofs.Values.{value_as_sum}
use Rattle.lr_rs.specs.declared.terms.TheConstants.{TERM_PRODUCTS}
use Rattle.lr_rs.specs.Words.{locator}
use Rattle.lr_rs.specs.RootLists.{term_factor}
use Rattle.lr_rs.specs.declared.sizes.TheConstants.{WORD_BYTES}

-- ---- the table
term_product : ℕ → ℕ
term_product n = times (n % 256) (term_factor (n / 256))

product-test : TERM_PRODUCTS ≡ map term_product (range_with_len 0 4096)
unfolding term_product term_factor times product remainder sum_of
product-test = refl

pub term_product-is : (a k : ℕ) → a < 256 → k < 16 → get_or TERM_PRODUCTS (256 * k + a) 0 ≡ times a (term_factor k)
unfolding term_product
term_product-is a k h j =
    let row : (256 * k + a) / 256 ≡ k = omega arith in
    let column : (256 * k + a) % 256 ≡ a = omega arith in
    ap (λ t. get_or t (256 * k + a) 0) product-test
    ∙ get_or-map-range_with_len term_product 0 4096 (256 * k + a) (256 * k + a) 0 (omega arith) (zero-add (256 * k + a))
    ∙ ap (λ c. times c (term_factor ((256 * k + a) / 256))) column
    ∙ ap (λ r. times a (term_factor r)) row

-- ---- the factors
is_factor : ℕ → Bool
is_factor k = eqb (term_factor k) (power (power 2 244) (16 - k))

factors-test : all_below 16 is_factor ≡ true
unfolding all_below is_factor term_factor power times product remainder sum_of
factors-test = refl

factor-is : (k : ℕ) → k < 16 → term_factor k ≡ power (power 2 244) (16 - k)
unfolding is_factor
factor-is k h = eqb-true (term_factor k) (power (power 2 244) (16 - k)) (all_below-at 16 is_factor factors-test k h)

-- ---- one step
-- (p q) (a b) = (p a) (q b)
times-swap : (p q a b : ℕ) → times (times p q) (times a b) ≡ times (times p a) (times q b)
times-swap p q a b =
    group p q (times a b)
    ∙ ap (times p) (sym (group q a b) ∙ ap (λ z. times z b) (commute q a) ∙ group a q b)
    ∙ sym (group p a (times q b))

power-nil : (a : ℕ) → power a 0 ≡ 1
unfolding power
power-nil a = refl

power-times : (a b n : ℕ) → power (times a b) n ≡ times (power a n) (power b n)
unfolding power
power-times a b zero = sym (one-times 1 (omega arith))
power-times a b (suc n) = ap (λ z. times z (times a b)) (power-times a b n) ∙ times-swap (power a n) (power b n) a b

-- the element whose powers the terms have before the place p is looked at
pub place_before : ℕ → ℕ
place_before p = power 2 (11 * (255 - p))

before_first : place_before 0 ≡ 1
unfolding place_before
before_first = power-round (11 * (255 - 0)) ∙ power-nil 2

round-once : (n : ℕ) → power 2 (n + 255) ≡ power 2 n
round-once n =
    let e : (n + 255) % 255 ≡ n % 255 = omega arith in
    power-round (n + 255) ∙ ap (power 2) e ∙ sym (power-round n)

before_next : (p : ℕ) → p < WORD_BYTES → place_before (p + 1) ≡ times (place_before p) (power 2 244)
unfolding place_before
before_next p h =
    let e : 11 * (255 - (p + 1)) + 255 ≡ 11 * (255 - p) + 244 = omega arith in
    sym (round-once (11 * (255 - (p + 1)))) ∙ ap (power 2) e ∙ power-add 2 (11 * (255 - p)) 244 (omega arith)

pub before_is_locator : (p : ℕ) → p < WORD_BYTES → place_before (p + 1) ≡ locator p
unfolding place_before
before_is_locator p h = let e : 255 - (p + 1) ≡ 254 - p = omega arith in ap (λ n. power 2 (11 * n)) e

-- the terms of the polynomial at the locator of the place before p
pub record AreTerms (cs terms : List ℕ) (p : ℕ) : Type 0 where
  pub term : (k : ℕ) → k < 17 → get_or terms k 0 ≡ times (get_or cs k 0) (power (place_before p) (16 - k))

pub terms_start : (cs : List ℕ) → ((k : ℕ) → get_or cs k 0 < 256) → AreTerms cs cs 0
terms_start cs h = record {
  term = λ k l.
      sym (ap (λ z. times (get_or cs k 0) (power z (16 - k))) before_first
      ∙ ap (times (get_or cs k 0)) (power-one (16 - k)) ∙ times-one (get_or cs k 0) (h k));
}

pub terms_next : (cs old new : List ℕ) (p : ℕ) → p < WORD_BYTES → AreTerms cs old p
    → ((k : ℕ) → k < 16 → get_or new k 0 ≡ times (get_or old k 0) (term_factor k))
    → get_or new 16 0 ≡ get_or old 16 0 → AreTerms cs new (p + 1)
terms_next cs old new p h t stepped constant = record {
  term = λ k l.
      elim (cases_eq k 16) [
        | inl e ↦
            ap (λ z. get_or new z 0) e ∙ constant ∙ t.term 16 (omega arith)
            ∙ ap (times (get_or cs 16 0)) (power-nil (place_before p) ∙ sym (power-nil (place_before (p + 1))))
            ∙ ap (λ z. times (get_or cs z 0) (power (place_before (p + 1)) (16 - z))) (sym e)
        | inr ne ↦
            stepped k (omega (arith, ne))
            ∙ ap (λ z. times z (term_factor k)) (t.term k l)
            ∙ ap (times (times (get_or cs k 0) (power (place_before p) (16 - k)))) (factor-is k (omega (arith, ne)))
            ∙ group (get_or cs k 0) (power (place_before p) (16 - k)) (power (power 2 244) (16 - k))
            ∙ ap (times (get_or cs k 0))
            (sym (power-times (place_before p) (power 2 244) (16 - k))
            ∙ ap (λ z. power z (16 - k)) (sym (before_next p h)))
      ];
}

pub terms_value : (cs terms : List ℕ) (p : ℕ) → length cs ≡ 17 → p < WORD_BYTES → AreTerms cs terms (p + 1)
    → sum_of 17 (slice_index terms) ≡ value_of cs (locator p)
terms_value cs terms p long h t =
    sum_of-same 17 (slice_index terms) (λ k. times (get_or cs k 0) (power (locator p) (16 - k)))
    (λ k l. t.term k l ∙ ap (λ z. times (get_or cs k 0) (power z (16 - k))) (before_is_locator p h))
    ∙ sym (value_as_sum cs 17 (locator p) long)
