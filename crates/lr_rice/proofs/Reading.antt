-- Reading as a function of the string, item by item. It shows that a string has one reading.
use Rattle.std.proofs.Common.{◌≡◌, ◌⊎◌, ℕ, zero, suc, ◌+◌, ◌-◌, ◌*◌, ◌/◌, ◌%◌, ◌^◌, ◌<◌, ◌≤◌, Bool, true, false, List}
use Rattle.std.proofs.Common.{[], ◌∷◌, ◌++◌, length, get_or, map, refl, sym, ap, ◌∙◌, subst, arith, inl, inr}
use Rattle.std.specs.Prelude.{IsFalse, IsTrue, Result, Ok, Err, nat_le, ◌==◌, ◌&&◌, if◌then◌else◌}
use Rattle.std.specs.Int.{bit_at}
use Rattle.std.specs.List.{flat_map}
use Rattle.std.proofs.lemmas.Bool.{le-leb, lt-leb}
use Rattle.std.proofs.lemmas.Bool.Decides.{nat_tests}
use Rattle.std.proofs.lemmas.List.{append_assoc, append-nil}
use Rattle.std.proofs.lemmas.Nat.{pow_pos, shr_split, mod_low, mod-pow-add}
use Rattle.std.proofs.Math.Nat.{pow-le-pow_right}
use Rattle.lr_bits.specs.Bits.{number_bits, zeros_and_one}
use Rattle.lr_rice.specs.declared.choice.BlockOption.{BlockOption}
use Rattle.lr_rice.specs.declared.choice.BlockOption.TheVariants.{ZeroBlock, SecondExtension, Split, Uncoded}
use Rattle.lr_rice.specs.declared.fault.Cause.{Cause}
use Rattle.lr_rice.specs.declared.fault.Cause.TheVariants.{Ended, OutOfRange}
use Rattle.lr_rice.specs.CodedLines.{IsOption, greatest, identifier, pair_number, pairs_string, short_width}
use Rattle.lr_rice.specs.LineFaults.{LowBitsFail, NoIdentifier, NoSequence, PairsFail, SequencesFail, SplitsFail}
use Rattle.lr_rice.proofs.ItemLemmas.{number_bits-push}

-- what is read next, with what is left, or why it can't be read
abbrev pub chain : {A B : Type 0} → Result A Cause → (A → Result B Cause) → Result B Cause
chain (Ok x) next = next x
chain (Err cause) next = Err cause

-- one in front
abbrev pub before : ℕ → Result (List ℕ × List ℕ) Cause → Result (List ℕ × List ℕ) Cause
before value (Ok x) = Ok (value ∷ x.0, x.1)
before value (Err cause) = Err cause

-- ---- sequences

abbrev one_more : Result (ℕ × List ℕ) Cause → Result (ℕ × List ℕ) Cause
one_more (Ok x) = Ok (suc x.0, x.1)
one_more (Err cause) = Err cause

abbrev pub take_sequence : List ℕ → Result (ℕ × List ℕ) Cause
take_sequence [] = Err Ended
take_sequence (zero ∷ string) = one_more (take_sequence string)
take_sequence (suc bit ∷ string) = Ok (0, string)

pub take_sequence-is : (m : ℕ) (rest : List ℕ) → take_sequence (zeros_and_one m ++ rest) ≡ Ok (m, rest)
unfolding zeros_and_one
take_sequence-is zero rest = refl
take_sequence-is (suc m) rest = ap one_more (take_sequence-is m rest)

pub take_sequence-ends : (string : List ℕ) → NoSequence string → take_sequence string ≡ Err Ended
take_sequence-ends [] none = refl
take_sequence-ends (zero ∷ string) none =
    ap one_more (take_sequence-ends string (λ k d inside. none (suc k) d (omega arith)))
take_sequence-ends (suc bit ∷ string) none = absurd (omega (arith, none 0 0 (omega arith)))

-- ---- numbers

abbrev with_bit : ℕ → Result (ℕ × List ℕ) Cause → Result (ℕ × List ℕ) Cause
with_bit worth (Ok x) = Ok (worth + x.0, x.1)
with_bit worth (Err cause) = Err cause

abbrev pub take_number : ℕ → List ℕ → Result (ℕ × List ℕ) Cause
take_number zero string = Ok (0, string)
take_number (suc width) [] = Err Ended
take_number (suc width) (bit ∷ string) = with_bit (bit * 2 ^ width) (take_number width string)

pub take_number-is : (width n : ℕ) (rest : List ℕ)
    → take_number width (number_bits width n ++ rest) ≡ Ok (n % 2 ^ width, rest)
unfolding number_bits
take_number-is zero n rest = ap (λ v. Ok (v, rest)) (omega arith)
take_number-is (suc width) n rest =
    let whole : bit_at n width * 2 ^ width + n % 2 ^ width ≡ n % 2 ^ suc width =
    sym (ap (λ k. n % 2 ^ k) (omega arith) ∙ mod-pow-add n 1 width) in
    ap (with_bit (bit_at n width * 2 ^ width)) (take_number-is width n rest) ∙ ap (λ v. Ok (v, rest)) whole

pub take_number-ends : (width : ℕ) (string : List ℕ) → length string < width → take_number width string ≡ Err Ended
take_number-ends zero string short = absurd (omega arith)
take_number-ends (suc width) [] short = refl
take_number-ends (suc width) (bit ∷ string) short =
    ap (with_bit (bit * 2 ^ width)) (take_number-ends width string (omega arith))

small_number : (width n : ℕ) → n < 2 ^ width → n % 2 ^ width ≡ n
small_number width n fits =
    let whole : n ≡ 0 * 2 ^ width + n = omega arith in
    ap (λ m. m % 2 ^ width) whole ∙ mod_low 0 width n fits

-- ---- identifiers

abbrev option_at : ℕ → ℕ → List ℕ → Result (BlockOption × List ℕ) Cause
option_at width zero [] = Err Ended
option_at width zero (zero ∷ string) = Ok (ZeroBlock, string)
option_at width zero (suc bit ∷ string) = Ok (SecondExtension, string)
option_at width (suc k) string = if suc k + 1 == 2 ^ width then Ok (Uncoded, string) else Ok (Split k, string)

abbrev pub take_option : ℕ → List ℕ → Result (BlockOption × List ℕ) Cause
take_option bits string = chain (take_number (short_width bits) string) (λ x. option_at (short_width bits) x.0 x.1)

short-pos : (bits : ℕ) → 3 ≤ short_width bits
short-pos bits = grind (arith, nat_tests)

option_number : (bits n : ℕ) (rest : List ℕ) → n < 2 ^ short_width bits
    → take_option bits (number_bits (short_width bits) n ++ rest) ≡ option_at (short_width bits) n rest
option_number bits n rest fits =
    let width = short_width bits in
    ap (λ x. chain x (λ y. option_at width y.0 y.1)) (take_number-is width n rest
    ∙ ap (λ v. Ok (v, rest)) (small_number width n fits))

option_long : (bits bit : ℕ) (rest : List ℕ) → bit < 2
    → number_bits (short_width bits + 1) bit ++ rest ≡ number_bits (short_width bits) 0 ++ bit ∷ rest
option_long bits bit rest fits =
    ap (λ l. l ++ rest) (ap (number_bits (short_width bits + 1)) (omega arith)
    ∙ number_bits-push (short_width bits) 0 bit fits)
    ∙ append_assoc (number_bits (short_width bits) 0) (bit ∷ []) rest

split_at : (width k : ℕ) (rest : List ℕ) → k + 2 < 2 ^ width → option_at width (suc k) rest ≡ Ok (Split k, rest)
split_at width k rest less = grind (arith, nat_tests)

uncoded_at : (width n : ℕ) (rest : List ℕ) → n + 2 ≡ 2 ^ width → option_at width (suc n) rest ≡ Ok (Uncoded, rest)
uncoded_at width n rest same = grind (arith, nat_tests)

pub take_option-is : (bits : ℕ) (option : BlockOption) (rest : List ℕ) → IsOption bits option
    → take_option bits (identifier bits option ++ rest) ≡ Ok (option, rest)
take_option-is bits ZeroBlock rest is =
    ap (take_option bits) (option_long bits 0 rest (omega arith))
    ∙ option_number bits 0 (0 ∷ rest) (pow_pos (short_width bits))
take_option-is bits SecondExtension rest is =
    ap (take_option bits) (option_long bits 1 rest (omega arith))
    ∙ option_number bits 0 (1 ∷ rest) (pow_pos (short_width bits))
take_option-is bits (Split k) rest is =
    let next : k + 1 ≡ suc k = omega arith in
    ap (λ n. take_option bits (number_bits (short_width bits) n ++ rest)) next
    ∙ option_number bits (suc k) rest (omega arith) ∙ split_at (short_width bits) k rest is
take_option-is bits Uncoded rest is =
    let width = short_width bits in
    let great : 8 ≤ 2 ^ width = pow-le-pow_right {n = 2} (omega arith) {i = 3} {j = width} (short-pos bits) in
    let next : 2 ^ width - 1 ≡ suc (2 ^ width - 2) = omega (arith, great) in
    ap (λ n. take_option bits (number_bits width n ++ rest)) next ∙ option_number bits (suc (2 ^ width - 2)) rest
    (omega (arith, great))
    ∙ uncoded_at width (2 ^ width - 2) rest (omega (arith, great))

pub take_option-ends : (bits : ℕ) (string : List ℕ) → NoIdentifier bits string → take_option bits string ≡ Err Ended
take_option-ends bits string (inl short) = ap (λ x. chain x (λ y. option_at (short_width bits) y.0 y.1))
    (take_number-ends (short_width bits) string short)
take_option-ends bits string (inr same) =
    ap (take_option bits) (same ∙ sym (append-nil (number_bits (short_width bits) 0)))
    ∙ option_number bits 0 [] (pow_pos (short_width bits))

-- ---- values that are sequences

abbrev test : Bool → Result (List ℕ × List ℕ) Cause → Result (List ℕ × List ℕ) Cause
test true x = x
test false x = Err OutOfRange

abbrev pub take_values : ℕ → ℕ → List ℕ → Result (List ℕ × List ℕ) Cause
take_values bits zero string = Ok ([], string)
take_values bits (suc n) string =
    chain (take_sequence string) (λ x. test (nat_le x.0 (greatest bits)) (before x.0 (take_values bits n x.1)))

pub take_values-is : (bits : ℕ) (values rest : List ℕ)
    → ((k : ℕ) → k < length values → get_or values k 0 ≤ greatest bits) →
    take_values bits (length values) (flat_map zeros_and_one values ++ rest) ≡ Ok (values, rest)
take_values-is bits [] rest small = refl
take_values-is bits (value ∷ values) rest small =
    let next = λ (x : ℕ × List ℕ). test (nat_le x.0 (greatest bits))
    (before x.0 (take_values bits (length values) x.1)) in
    ap (λ l. chain (take_sequence l) next) (append_assoc (zeros_and_one value) (flat_map zeros_and_one values) rest)
    ∙ ap (λ x. chain x next) (take_sequence-is value (flat_map zeros_and_one values ++ rest))
    ∙ ap (λ b. test b (before value (take_values bits (length values) (flat_map zeros_and_one values ++ rest))))
    (le-leb value (greatest bits) (small 0 (omega arith)))
    ∙ ap (before value) (take_values-is bits values rest (λ k inside. small (suc k) (omega arith)))

pub take_values-fails : (bits n : ℕ) (string : List ℕ) (cause : Cause) → SequencesFail bits n string cause
    → take_values bits n string ≡ Err cause
take_values-fails bits zero string cause fails = absurd fails
take_values-fails bits (suc n) string cause (inl none) =
    let next = λ (x : ℕ × List ℕ). test (nat_le x.0 (greatest bits)) (before x.0 (take_values bits n x.1)) in
    ap (λ x. chain x next) (take_sequence-ends string none.0) ∙ ap Err (sym none.1)
take_values-fails bits (suc n) string cause (inr there) =
    let value = there.0 in
    let rest = there.1 in
    let next = λ (x : ℕ × List ℕ). test (nat_le x.0 (greatest bits)) (before x.0 (take_values bits n x.1)) in
    let read : take_values bits (suc n) string ≡ test (nat_le value (greatest bits))
    (before value (take_values bits n rest)) =
    ap (λ l. chain (take_sequence l) next) there.2 ∙ ap (λ x. chain x next) (take_sequence-is value rest) in
    elim there.3 [
      | inl great ↦ read ∙ ap (λ b. test b (before value (take_values bits n rest)))
          (lt-leb value (greatest bits) great.0) ∙ ap Err (sym great.1)
      | inr later ↦ read ∙ ap (λ b. test b (before value (take_values bits n rest)))
          (le-leb value (greatest bits) later.0)
          ∙ ap (before value) (take_values-fails bits n rest cause later.1)
    ]

-- ---- values that are split

abbrev pub take_highs : ℕ → List ℕ → Result (List ℕ × List ℕ) Cause
take_highs zero string = Ok ([], string)
take_highs (suc n) string = chain (take_sequence string) (λ x. before x.0 (take_highs n x.1))

pub take_highs-is : (highs rest : List ℕ) → take_highs (length highs) (flat_map zeros_and_one highs ++ rest) ≡ Ok
    (highs, rest)
take_highs-is [] rest = refl
take_highs-is (high ∷ highs) rest =
    let next = λ (x : ℕ × List ℕ). before x.0 (take_highs (length highs) x.1) in
    ap (λ l. chain (take_sequence l) next) (append_assoc (zeros_and_one high) (flat_map zeros_and_one highs) rest)
    ∙ ap (λ x. chain x next) (take_sequence-is high (flat_map zeros_and_one highs ++ rest))
    ∙ ap (before high) (take_highs-is highs rest)

pub take_highs-ends : (n : ℕ) (highs rest : List ℕ) → length highs < n → NoSequence rest
    → take_highs n (flat_map zeros_and_one highs ++ rest) ≡ Err Ended
take_highs-ends zero highs rest fewer none = absurd (omega arith)
take_highs-ends (suc n) [] rest fewer none =
    ap (λ x. chain x (λ y. before y.0 (take_highs n y.1))) (take_sequence-ends rest none)
take_highs-ends (suc n) (high ∷ highs) rest fewer none =
    let next = λ (x : ℕ × List ℕ). before x.0 (take_highs n x.1) in
    ap (λ l. chain (take_sequence l) next) (append_assoc (zeros_and_one high) (flat_map zeros_and_one highs) rest)
    ∙ ap (λ x. chain x next) (take_sequence-is high (flat_map zeros_and_one highs ++ rest))
    ∙ ap (before high) (take_highs-ends n highs rest (omega arith) none)

abbrev pub take_lows : ℕ → ℕ → List ℕ → List ℕ → Result (List ℕ × List ℕ) Cause
take_lows bits k [] string = Ok ([], string)
take_lows bits k (high ∷ highs) string =
    chain (take_number k string) (λ x. test (nat_le (high * 2 ^ k + x.0) (greatest bits))
    (before (high * 2 ^ k + x.0) (take_lows bits k highs x.1)))

pub take_lows-is : (bits k : ℕ) (values rest : List ℕ)
    → ((j : ℕ) → j < length values → get_or values j 0 ≤ greatest bits) →
    take_lows bits k (map (λ v. v / 2 ^ k) values) (flat_map (number_bits k) values ++ rest) ≡ Ok (values, rest)
take_lows-is bits k [] rest small = refl
take_lows-is bits k (value ∷ values) rest small =
    let highs = map (λ v. v / 2 ^ k) values in
    let later = flat_map (number_bits k) values ++ rest in
    let next = λ (x : ℕ × List ℕ). test (nat_le (value / 2 ^ k * 2 ^ k + x.0) (greatest bits))
    (before (value / 2 ^ k * 2 ^ k + x.0) (take_lows bits k highs x.1)) in
    ap (λ l. chain (take_number k l) next) (append_assoc (number_bits k value) (flat_map (number_bits k) values) rest)
    ∙ ap (λ x. chain x next) (take_number-is k value later)
    ∙ ap (λ v. test (nat_le v (greatest bits)) (before v (take_lows bits k highs later))) (shr_split value k)
    ∙ ap (λ b. test b (before value (take_lows bits k highs later)))
    (le-leb value (greatest bits) (small 0 (omega arith)))
    ∙ ap (before value) (take_lows-is bits k values rest (λ j inside. small (suc j) (omega arith)))

pub take_lows-fails : (bits k : ℕ) (highs string : List ℕ) (cause : Cause)
    → LowBitsFail bits k highs string cause → take_lows bits k highs string ≡ Err cause
take_lows-fails bits k [] string cause fails = absurd fails
take_lows-fails bits k (high ∷ highs) string cause (inl short) =
    let next = λ (x : ℕ × List ℕ). test (nat_le (high * 2 ^ k + x.0) (greatest bits))
    (before (high * 2 ^ k + x.0) (take_lows bits k highs x.1)) in
    ap (λ x. chain x next) (take_number-ends k string short.0) ∙ ap Err (sym short.1)
take_lows-fails bits k (high ∷ highs) string cause (inr there) =
    let low = there.0 in
    let rest = there.1 in
    let value = high * 2 ^ k + low in
    let next = λ (x : ℕ × List ℕ). test (nat_le (high * 2 ^ k + x.0) (greatest bits))
    (before (high * 2 ^ k + x.0) (take_lows bits k highs x.1)) in
    let read : take_lows bits k (high ∷ highs) string ≡ test (nat_le value (greatest bits))
    (before value (take_lows bits k highs rest)) =
    ap (λ l. chain (take_number k l) next) there.3 ∙ ap (λ x. chain x next) (take_number-is k low rest
    ∙ ap (λ v. Ok (v, rest)) (small_number k low there.2)) in
    elim there.4 [
      | inl great ↦ read ∙ ap (λ b. test b (before value (take_lows bits k highs rest)))
          (lt-leb value (greatest bits) great.0) ∙ ap Err (sym great.1)
      | inr later ↦ read ∙ ap (λ b. test b (before value (take_lows bits k highs rest)))
          (le-leb value (greatest bits) later.0)
          ∙ ap (before value) (take_lows-fails bits k highs rest cause later.1)
    ]

abbrev pub take_splits : ℕ → ℕ → ℕ → List ℕ → Result (List ℕ × List ℕ) Cause
take_splits bits k n string = chain (take_highs n string) (λ x. take_lows bits k x.0 x.1)

map_of : (k : ℕ) (values : List ℕ) → flat_map (λ v. zeros_and_one (v / 2 ^ k)) values ≡ flat_map zeros_and_one
    (map (λ v. v / 2 ^ k) values)
map_of k [] = refl
map_of k (value ∷ values) = ap (λ l. zeros_and_one (value / 2 ^ k) ++ l) (map_of k values)

length-divided : (k : ℕ) (values : List ℕ) → length (map (λ v. v / 2 ^ k) values) ≡ length values
length-divided k [] = refl
length-divided k (value ∷ values) = ap suc (length-divided k values)

pub take_splits-is : (bits k : ℕ) (values rest : List ℕ)
    → ((j : ℕ) → j < length values → get_or values j 0 ≤ greatest bits) →
    take_splits bits k (length values)
    ((flat_map (λ v. zeros_and_one (v / 2 ^ k)) values ++ flat_map (number_bits k) values) ++ rest) ≡ Ok (values, rest)
take_splits-is bits k values rest small =
    let highs = map (λ v. v / 2 ^ k) values in
    let lows = flat_map (number_bits k) values ++ rest in
    let next = λ (x : List ℕ × List ℕ). take_lows bits k x.0 x.1 in
    ap (λ l. chain (take_highs (length values) l) next)
    (append_assoc (flat_map (λ v. zeros_and_one (v / 2 ^ k)) values) (flat_map (number_bits k) values) rest
    ∙ ap (λ l. l ++ lows) (map_of k values))
    ∙ ap (λ n. chain (take_highs n (flat_map zeros_and_one highs ++ lows)) next) (sym (length-divided k values))
    ∙ ap (λ x. chain x next) (take_highs-is highs lows) ∙ take_lows-is bits k values rest small

pub take_splits-fails : (bits k n : ℕ) (string : List ℕ) (cause : Cause) → SplitsFail bits k n string cause
    → take_splits bits k n string ≡ Err cause
take_splits-fails bits k n string cause fails =
    let highs = fails.0 in
    let rest = fails.1 in
    let next = λ (x : List ℕ × List ℕ). take_lows bits k x.0 x.1 in
    elim fails.3 [
      | inl short ↦ ap (λ l. chain (take_highs n l) next) fails.2
          ∙ ap (λ x. chain x next) (take_highs-ends n highs rest short.0 short.1) ∙ ap Err (sym short.2)
      | inr low ↦ ap (λ l. chain (take_highs n l) next) fails.2
          ∙ ap (λ m. chain (take_highs m (flat_map zeros_and_one highs ++ rest)) next) (sym low.0)
          ∙ ap (λ x. chain x next) (take_highs-is highs rest) ∙ take_lows-fails bits k highs rest cause low.1
    ]

-- ---- values in full

abbrev pub take_numbers : ℕ → ℕ → List ℕ → Result (List ℕ × List ℕ) Cause
take_numbers width zero string = Ok ([], string)
take_numbers width (suc n) string = chain (take_number width string) (λ x. before x.0 (take_numbers width n x.1))

pub take_numbers-is : (width : ℕ) (values rest : List ℕ)
    → ((j : ℕ) → j < length values → get_or values j 0 ≤ greatest width) →
    take_numbers width (length values) (flat_map (number_bits width) values ++ rest) ≡ Ok (values, rest)
take_numbers-is width [] rest small = refl
take_numbers-is width (value ∷ values) rest small =
    let next = λ (x : ℕ × List ℕ). before x.0 (take_numbers width (length values) x.1) in
    let later = flat_map (number_bits width) values ++ rest in
    let fits : value < 2 ^ width = omega (arith, small 0 (omega arith), pow_pos width) in
    ap (λ l. chain (take_number width l) next)
    (append_assoc (number_bits width value) (flat_map (number_bits width) values) rest)
    ∙ ap (λ x. chain x next) (take_number-is width value later
    ∙ ap (λ v. Ok (v, later)) (small_number width value fits))
    ∙ ap (before value) (take_numbers-is width values rest (λ j inside. small (suc j) (omega arith)))

number_or_not : (width : ℕ) (string : List ℕ) → (take_number width string ≡ Err Ended)
    ⊎ ((n : ℕ) × (rest : List ℕ) × (take_number width string ≡ Ok (n, rest)) × (length string ≡ width + length rest))
number_or_not zero string = inr (0, string, refl, omega arith)
number_or_not (suc width) [] = inl refl
number_or_not (suc width) (bit ∷ string) =
    elim (number_or_not width string) [
      | inl none ↦ inl (ap (with_bit (bit * 2 ^ width)) none)
      | inr there ↦ inr (
        bit * 2 ^ width + there.0,
        there.1,
        ap (with_bit (bit * 2 ^ width)) there.2,
        omega (arith, there.3),
      )
    ]

pub take_numbers-ends : (width n : ℕ) (string : List ℕ) → length string < n * width
    → take_numbers width n string ≡ Err Ended
take_numbers-ends width zero string short = absurd (omega arith)
take_numbers-ends width (suc n) string short =
    let next = λ (x : ℕ × List ℕ). before x.0 (take_numbers width n x.1) in
    elim (number_or_not width string) [
      | inl none ↦ ap (λ x. chain x next) none
      | inr there ↦ ap (λ x. chain x next) there.2
          ∙ ap (before there.0) (take_numbers-ends width n there.1 (omega (arith, there.3)))
    ]

-- ---- pairs

abbrev pair_after : ℕ × ℕ → ℕ × ℕ
pair_after x = if x.0 == 0 then (x.1 + 1, 0) else (x.0 - 1, x.1 + 1)

abbrev pub pair_at : ℕ → ℕ × ℕ
pair_at zero = (0, 0)
pair_at (suc number) = pair_after (pair_at number)

after_first : (b : ℕ) → pair_after (0, b) ≡ (b + 1, 0)
after_first b = refl

after_other : (a b : ℕ) → pair_after (suc a, b) ≡ (a, b + 1)
after_other a b = grind (arith, nat_tests)

pair_at-along : (a b : ℕ) → pair_at (pair_number (a + b) 0) ≡ (a + b, 0) → pair_at (pair_number a b) ≡ (a, b)
pair_at-along a zero start =
    let sum : a + 0 ≡ a = omega arith in
    subst (λ (n : ℕ). pair_at (pair_number n 0) ≡ (n, 0)) sum start
pair_at-along a (suc b) start =
    let sum : a + suc b ≡ suc a + b = omega arith in
    let next : pair_number a (suc b) ≡ suc (pair_number (suc a) b) = ap (λ (n : ℕ). n * (n + 1) / 2 + suc b) sum
    ∙ omega arith in
    ap pair_at next ∙ ap pair_after
    (pair_at-along (suc a) b (subst (λ (n : ℕ). pair_at (pair_number n 0) ≡ (n, 0)) sum start))
    ∙ after_other a b ∙ ap (λ c. (a, c)) (omega arith)

pair_at-start : (n : ℕ) → pair_at (pair_number n 0) ≡ (n, 0)
pair_at-start zero = refl
pair_at-start (suc n) =
    let next : pair_number (suc n) 0 ≡ suc (pair_number 0 n) = omega arith in
    ap pair_at next ∙ ap pair_after
    (pair_at-along 0 n (subst (λ (m : ℕ). pair_at (pair_number m 0) ≡ (m, 0)) (omega arith) (pair_at-start n)))
    ∙ after_first n ∙ ap (λ c. (c, 0)) (omega arith)

pub pair_at-is : (a b : ℕ) → pair_at (pair_number a b) ≡ (a, b)
pair_at-is a b = pair_at-along a b (pair_at-start (a + b))

true_false : {A : Type 0} → true ≡ false → A
true_false same = cc

lead_or : {a most : ℕ} (lead : Bool) → ((0 < 0) ⊎ IsFalse lead → a ≤ most) → IsTrue lead ⊎ (a ≤ most)
lead_or true small = inl refl
lead_or false small = inr (small (inr refl))

abbrev pub pair_fits : ℕ → Bool → ℕ → ℕ → Bool
pair_fits bits true a b = nat_le b (greatest bits)
pair_fits bits false a b = nat_le b (greatest bits) && nat_le a (greatest bits)

pair_fits-is : (bits : ℕ) (lead : Bool) (a b : ℕ) → b ≤ greatest bits → IsTrue lead ⊎ (a ≤ greatest bits)
    → pair_fits bits lead a b ≡ true
pair_fits-is bits true a b small tested = le-leb b (greatest bits) small
pair_fits-is bits false a b small (inl never) = absurd (true_false (sym never))
pair_fits-is bits false a b small (inr other) =
    ap (λ t. t && nat_le a (greatest bits)) (le-leb b (greatest bits) small) ∙ le-leb a (greatest bits) other

and-second : (t : Bool) → (t && false) ≡ false
and-second true = refl
and-second false = refl

pair_fits-not : (bits : ℕ) (lead : Bool) (a b : ℕ) → (greatest bits < b) ⊎ (IsFalse lead × (greatest bits < a))
    → pair_fits bits lead a b ≡ false
pair_fits-not bits true a b (inl great) = lt-leb b (greatest bits) great
pair_fits-not bits true a b (inr other) = absurd (true_false other.0)
pair_fits-not bits false a b (inl great) = ap (λ t. t && nat_le a (greatest bits)) (lt-leb b (greatest bits) great)
pair_fits-not bits false a b (inr other) =
    ap (λ t. nat_le b (greatest bits) && t) (lt-leb a (greatest bits) other.1) ∙ and-second (nat_le b (greatest bits))

abbrev pub take_pairs : ℕ → Bool → ℕ → List ℕ → Result (List ℕ × List ℕ) Cause
take_pairs bits lead zero string = Ok ([], string)
take_pairs bits lead (suc n) string =
    chain (take_sequence string) (λ x. test (pair_fits bits lead (pair_at x.0).0 (pair_at x.0).1)
    (before (pair_at x.0).0 (before (pair_at x.0).1 (take_pairs bits false n x.1))))

pair_read : (bits : ℕ) (lead : Bool) (n a b : ℕ) (rest : List ℕ) →
    take_pairs bits lead (suc n) (zeros_and_one (pair_number a b) ++ rest) ≡ test (pair_fits bits lead a b)
    (before a (before b (take_pairs bits false n rest)))
pair_read bits lead n a b rest =
    ap (λ x. chain x (λ y. test (pair_fits bits lead (pair_at y.0).0 (pair_at y.0).1)
    (before (pair_at y.0).0 (before (pair_at y.0).1 (take_pairs bits false n y.1)))))
    (take_sequence-is (pair_number a b) rest)
    ∙ ap (λ (p : ℕ × ℕ). test (pair_fits bits lead p.0 p.1)
    (before p.0 (before p.1 (take_pairs bits false n rest)))) (pair_at-is a b)

pub take_pairs-is : (bits : ℕ) (lead : Bool) (n : ℕ) (values rest : List ℕ) → length values ≡ 2 * n →
    ((k : ℕ) → k < length values → (0 < k) ⊎ IsFalse lead → get_or values k 0 ≤ greatest bits)
    → take_pairs bits lead n (pairs_string values ++ rest) ≡ Ok (values, rest)
take_pairs-is bits lead zero [] rest size small = refl
take_pairs-is bits lead (suc n) [] rest size small = absurd (omega arith)
take_pairs-is bits lead zero (a ∷ values) rest size small = absurd (omega arith)
take_pairs-is bits lead (suc n) (a ∷ []) rest size small = absurd (omega arith)
take_pairs-is bits lead (suc n) (a ∷ b ∷ values) rest size small =
    let first : IsTrue lead ⊎ (a ≤ greatest bits) = lead_or lead (small 0 (omega arith)) in
    ap (take_pairs bits lead (suc n)) (append_assoc (zeros_and_one (pair_number a b)) (pairs_string values) rest)
    ∙ pair_read bits lead n a b (pairs_string values ++ rest)
    ∙ ap (λ t. test t (before a (before b (take_pairs bits false n (pairs_string values ++ rest)))))
    (pair_fits-is bits lead a b (small 1 (omega arith) (inl (omega arith))) first)
    ∙ ap (λ x. before a (before b x)) (take_pairs-is bits false n values rest (omega arith)
    (λ k inside tested. small (suc (suc k)) (omega arith) (inl (omega arith))))

pub take_pairs-fails : (bits : ℕ) (lead : Bool) (n : ℕ) (string : List ℕ) (cause : Cause)
    → PairsFail bits lead n string cause → take_pairs bits lead n string ≡ Err cause
take_pairs-fails bits lead zero string cause fails = absurd fails
take_pairs-fails bits lead (suc n) string cause (inl none) =
    ap (λ x. chain x (λ y. test (pair_fits bits lead (pair_at y.0).0 (pair_at y.0).1)
    (before (pair_at y.0).0 (before (pair_at y.0).1 (take_pairs bits false n y.1))))) (take_sequence-ends string none.0)
    ∙ ap Err (sym none.1)
take_pairs-fails bits lead (suc n) string cause (inr there) =
    let a = there.0 in
    let b = there.1 in
    let rest = there.2 in
    let read = ap (take_pairs bits lead (suc n)) there.3 ∙ pair_read bits lead n a b rest in
    elim there.4 [
      | inl great ↦ read ∙ ap (λ t. test t (before a (before b (take_pairs bits false n rest))))
          (pair_fits-not bits lead a b great.0) ∙ ap Err (sym great.1)
      | inr later ↦ read ∙ ap (λ t. test t (before a (before b (take_pairs bits false n rest))))
          (pair_fits-is bits lead a b later.0 later.1)
          ∙ ap (λ x. before a (before b x)) (take_pairs-fails bits false n rest cause later.2)
    ]
