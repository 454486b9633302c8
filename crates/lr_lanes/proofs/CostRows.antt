-- The tables of what symbols cost.
use Rattle.std.proofs.Common.{arith, ap, refl, sym, ◌∙◌, ◌≡◌, ◌+◌, ◌-◌, ◌*◌, ◌%◌, ◌<◌, ◌==◌, ℕ, List, [], ◌∷◌, get_or}
use Rattle.std.proofs.Common.{zero-add, Bool, true, false, length}
use Rattle.std.proofs.lemmas.List.FromFn.{get_or-map-range_with_len}
use Rattle.std.specs.Int.{bit_at}
use Rattle.std.specs.List.{range_with_len, sum_by}
use Rattle.std.specs.Prelude.{map, not}
use mir.Val.{bool_byte}
use Rattle.lr_conv.specs.Convolution.{bit, first_of_seven, second_generator}
use Rattle.lr_lanes.specs.Lanes.{lowered, state_of}
use Rattle.lr_lanes.specs.declared.cost_rows.Rows.{Rows}
use Rattle.lr_lanes.specs.declared.cost_rows.TheConstants.{FIRST_COSTS, SECOND_COSTS}
use Rattle.lr_lanes.proofs.Placed.{placed}

-- by what a 0 and a 1 costs
abbrev firsts : ℕ → ℕ → List ℕ
firsts z o = z ∷ o ∷ o ∷ z ∷ o ∷ z ∷ z ∷ o ∷ z ∷ o ∷ o ∷ z ∷ o ∷ z ∷ z ∷ o ∷ []

abbrev seconds : ℕ → ℕ → List ℕ
seconds z o = z ∷ z ∷ o ∷ o ∷ o ∷ o ∷ z ∷ z ∷ o ∷ o ∷ z ∷ z ∷ z ∷ z ∷ o ∷ o ∷ []

-- no rows, where no table stands
abbrev none : Rows
none = record { rows = []; aligned = 0 }

first_row : ℕ → List ℕ
first_row k = firsts (lowered 127 (k - 1)) (lowered 127 (254 - (k - 1)))

plain_row : ℕ → List ℕ
plain_row k = seconds (lowered 127 (k - 1)) (lowered 127 (254 - (k - 1)))

inverted_row : ℕ → List ℕ
inverted_row k = seconds (lowered 127 (254 - (k - 1))) (lowered 127 (k - 1))

first-test : FIRST_COSTS.rows ≡ map first_row (range_with_len 0 256)
unfolding first_row
first-test = refl

plain-test : (get_or SECOND_COSTS 0 none).rows ≡ map plain_row (range_with_len 0 256)
unfolding plain_row
plain-test = refl

inverted-test : (get_or SECOND_COSTS 1 none).rows ≡ map inverted_row (range_with_len 0 256)
unfolding inverted_row
inverted-test = refl

-- the second symbol of seven levels, by whether the line code inverts it
abbrev pub second_by : Bool → ℕ → Bool
second_by inverted seven = (bit inverted + sum_by (bit_at seven) second_generator) % 2 == 1

module _ (price : Bool → ℕ) where
  first_price : ℕ → ℕ
  first_price j = lowered 127 (price (first_of_seven (2 * state_of j)))

  second_price : Bool → ℕ → ℕ
  second_price inverted j = lowered 127 (price (second_by inverted (2 * state_of j)))

  firsts_are : firsts (lowered 127 (price false)) (lowered 127 (price true)) ≡ map first_price (range_with_len 0 16)
  unfolding first_price
  firsts_are = refl

  plain_are : seconds (lowered 127 (price false)) (lowered 127 (price true)) ≡
      map (second_price false) (range_with_len 0 16)
  unfolding second_price
  plain_are = refl

  inverted_are : seconds (lowered 127 (price true)) (lowered 127 (price false)) ≡
      map (second_price true) (range_with_len 0 16)
  unfolding second_price
  inverted_are = refl

  module _ (k : ℕ) (l : k < 256) (zero : price false ≡ k - 1) (one : price true ≡ 254 - (k - 1)) (j : ℕ)
      (m : j < 16) where
    pub first_is : get_or (get_or FIRST_COSTS.rows k []) j 0 ≡ lowered 127 (price (first_of_seven (2 * state_of j)))
    unfolding first_row first_price
    first_is =
        ap (λ t. get_or (get_or t k []) j 0) first-test
        ∙ ap (λ r. get_or r j 0) (get_or-map-range_with_len first_row 0 256 k k [] l (zero-add k))
        ∙ ap (λ x. get_or (firsts (lowered 127 x) (lowered 127 (254 - (k - 1)))) j 0) (sym zero)
        ∙ ap (λ y. get_or (firsts (lowered 127 (price false)) (lowered 127 y)) j 0) (sym one)
        ∙ ap (λ r. get_or r j 0) firsts_are
        ∙ placed first_price 16 j m

    plain_is : get_or (get_or (get_or SECOND_COSTS 0 none).rows k []) j 0 ≡
        lowered 127 (price (second_by false (2 * state_of j)))
    unfolding plain_row second_price
    plain_is =
        ap (λ t. get_or (get_or t k []) j 0) plain-test
        ∙ ap (λ r. get_or r j 0) (get_or-map-range_with_len plain_row 0 256 k k [] l (zero-add k))
        ∙ ap (λ x. get_or (seconds (lowered 127 x) (lowered 127 (254 - (k - 1)))) j 0) (sym zero)
        ∙ ap (λ y. get_or (seconds (lowered 127 (price false)) (lowered 127 y)) j 0) (sym one)
        ∙ ap (λ r. get_or r j 0) plain_are
        ∙ placed (second_price false) 16 j m

    inverted_is : get_or (get_or (get_or SECOND_COSTS 1 none).rows k []) j 0 ≡
        lowered 127 (price (second_by true (2 * state_of j)))
    unfolding inverted_row second_price
    inverted_is =
        ap (λ t. get_or (get_or t k []) j 0) inverted-test
        ∙ ap (λ r. get_or r j 0) (get_or-map-range_with_len inverted_row 0 256 k k [] l (zero-add k))
        ∙ ap (λ x. get_or (seconds (lowered 127 (254 - (k - 1))) (lowered 127 x)) j 0) (sym zero)
        ∙ ap (λ y. get_or (seconds (lowered 127 y) (lowered 127 (price false))) j 0) (sym one)
        ∙ ap (λ r. get_or r j 0) inverted_are
        ∙ placed (second_price true) 16 j m

-- by the line code
pub second_is : (inverted : Bool) (n k : ℕ) (price : Bool → ℕ) → n ≡ bool_byte inverted → k < 256 →
    price false ≡ k - 1 → price true ≡ 254 - (k - 1) → (j : ℕ) → j < 16 →
    get_or (get_or (get_or SECOND_COSTS n none).rows k []) j 0
    ≡ lowered 127 (price (second_by inverted (2 * state_of j)))
second_is false n k price e l zero one j m =
    ap (λ t. get_or (get_or (get_or SECOND_COSTS t none).rows k []) j 0) e ∙ plain_is price k l zero one j m
second_is true n k price e l zero one j m =
    ap (λ t. get_or (get_or (get_or SECOND_COSTS t none).rows k []) j 0) e ∙ inverted_is price k l zero one j m

pub either_sum : (inverted : Bool) (price : Bool → ℕ) → price false + price true ≡ 254 →
    price (not inverted) + price inverted ≡ 254
either_sum false price e = omega arith
either_sum true price e = e

-- ---- each row has sixteen lanes
pub first_size : (k : ℕ) → k < 256 → length (get_or FIRST_COSTS.rows k []) ≡ 16
unfolding first_row
first_size k l =
    ap (λ t. length (get_or t k [])) first-test
    ∙ ap length (get_or-map-range_with_len first_row 0 256 k k [] l (zero-add k))

pub second_size : (inverted : Bool) (n k : ℕ) → n ≡ bool_byte inverted → k < 256 →
    length (get_or (get_or SECOND_COSTS n none).rows k []) ≡ 16
unfolding plain_row inverted_row
second_size false n k e l =
    ap (λ t. length (get_or (get_or SECOND_COSTS t none).rows k [])) e
    ∙ ap (λ t. length (get_or t k [])) plain-test
    ∙ ap length (get_or-map-range_with_len plain_row 0 256 k k [] l (zero-add k))
second_size true n k e l =
    ap (λ t. length (get_or (get_or SECOND_COSTS t none).rows k [])) e
    ∙ ap (λ t. length (get_or t k [])) inverted-test
    ∙ ap length (get_or-map-range_with_len inverted_row 0 256 k k [] l (zero-add k))
