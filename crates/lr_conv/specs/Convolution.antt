-- The convolutional code of rate 1/2 and constraint length 7 (CCSDS 131.0-B, section 3.3).
use Rattle.std.specs.Int.{bit_at}
use Rattle.std.specs.Prelude.{ℕ, ◌+◌, ◌-◌, ◌%◌, ◌==◌, zero, suc, Bool, true, false, List, [], ◌∷◌, ◌++◌, length}
use Rattle.std.specs.Prelude.{sum_by, slice_index_or}
use Rattle.lr_conv.specs.declared.line.LineCode.{LineCode}

abbrev pub bit : Bool → ℕ
bit false = 0
bit true = 1

-- How many places before a level the levels stand that each generator adds: the ones of 1111001 and of 1011011.
abbrev pub first_generator : List ℕ
first_generator = 0 ∷ 1 ∷ 2 ∷ 3 ∷ 6 ∷ []

abbrev pub second_generator : List ℕ
second_generator = 0 ∷ 2 ∷ 3 ∷ 5 ∷ 6 ∷ []

-- the level `places` before place i of x, where t is six earlier levels, the oldest first, and then x
abbrev pub earlier_bit : List Bool → ℕ → ℕ → ℕ
earlier_bit t i places = bit (slice_index_or t (6 + i - places) false)

-- the sum of the levels that a generator adds at place i
abbrev pub generator_sum : List ℕ → List Bool → ℕ → ℕ
generator_sum generator t i = sum_by (earlier_bit t i) generator

-- the two symbols of place i: the sums modulo 2, the second one complemented where the line code inverts it
abbrev pub first_symbol : List Bool → ℕ → Bool
first_symbol t i = generator_sum first_generator t i % 2 == 1

abbrev pub second_symbol : LineCode → List Bool → ℕ → Bool
second_symbol line t i = (bit line.inverted + generator_sum second_generator t i) % 2 == 1

-- the two symbols of seven levels in a number, the newest as the least significant one
abbrev pub first_of_seven : ℕ → Bool
first_of_seven seven = sum_by (bit_at seven) first_generator % 2 == 1

abbrev pub second_of_seven : LineCode → ℕ → Bool
second_of_seven line seven = (bit line.inverted + sum_by (bit_at seven) second_generator) % 2 == 1

-- the symbols of the first n places
abbrev pub symbols : LineCode → List Bool → ℕ → List Bool
symbols line t zero = []
symbols line t (suc n) = symbols line t n ++ first_symbol t n ∷ second_symbol line t n ∷ []

-- the symbols of a list of levels after six earlier ones
abbrev pub code : LineCode → List Bool → List Bool → List Bool
code line past x = symbols line (past ++ x) (length x)
