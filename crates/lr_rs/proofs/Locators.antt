-- The 255 locators are different elements that aren't 0.
use Rattle.std.proofs.Common.{◌≡◌, ℕ, ◌-◌, ◌*◌, ◌%◌, ◌<◌, Bool, true, eqb, refl, sym, ap, ◌∙◌, arith}
use Rattle.std.proofs.lemmas.Bool.{eqb-true}
use Rattle.std.proofs.lemmas.Nat.{mod_below}
use Rattle.lr_gf.specs.Field.{power}
use Rattle.lr_gf.proofs.Tests.{all_below, all_below-at}
use Rattle.lr_gf.proofs.Powers.{power-lt, power-round, same_exponent}
use Rattle.lr_gf.proofs.Vanishing.{AreNodes, power-nonzero}
use Rattle.lr_rs.specs.Words.{locator}
use Rattle.lr_rs.specs.declared.sizes.TheConstants.{WORD_BYTES}

-- the exponent of a locator, and the place that it belongs to: 116 is the inverse of 11 modulo 255
exponent : ℕ → ℕ
exponent i = 11 * (254 - i) % 255

place_back : ℕ → Bool
place_back i = eqb (254 - exponent i * 116 % 255) i

place-test : all_below 255 place_back ≡ true
unfolding all_below place_back exponent
place-test = refl

place-is : (i : ℕ) → i < WORD_BYTES → 254 - exponent i * 116 % 255 ≡ i
unfolding place_back
place-is i h = eqb-true (254 - exponent i * 116 % 255) i (all_below-at 255 place_back place-test i h)

exponent-lt : (i : ℕ) → exponent i < WORD_BYTES
unfolding exponent
exponent-lt i = mod_below (11 * (254 - i)) 255 (omega arith)

locator-is : (i : ℕ) → locator i ≡ power 2 (exponent i)
unfolding exponent
locator-is i = power-round (11 * (254 - i))

same_place : (i j : ℕ) → i < WORD_BYTES → j < WORD_BYTES → locator i ≡ locator j → i ≡ j
same_place i j h k e =
    sym (place-is i h)
    ∙ ap (λ n. 254 - n * 116 % 255)
    (same_exponent (exponent i) (exponent j) (exponent-lt i) (exponent-lt j) (sym (locator-is i) ∙ e
    ∙ locator-is j))
    ∙ place-is j k

pub locators : AreNodes WORD_BYTES locator
locators = record {
  below = λ i h. power-lt 2 (11 * (254 - i)) (omega arith);
  nonzero = λ i h. power-nonzero 2 (11 * (254 - i)) (omega arith) (omega arith);
  different = same_place;
}
