-- Each string of bits begins with an item, or there is none.
use Rattle.std.proofs.Common.{◌≡◌, ◌⊎◌, ℕ, zero, suc, ◌+◌, ◌*◌, ◌/◌, ◌^◌, ◌<◌, ◌≤◌, Bool, true, false, List, []}
use Rattle.std.proofs.Common.{◌∷◌, ◌++◌, length, get_or, map, All, refl, sym, ap, ◌∙◌, subst, arith, inl, inr}
use Rattle.std.proofs.Common.{length-append}
use Rattle.std.specs.Prelude.{IsFalse, IsTrue}
use Rattle.std.specs.List.{flat_map}
use Rattle.std.proofs.Math.Nat.{pow-succ'}
use Rattle.std.proofs.lemmas.Bool.{cases_lt}
use Rattle.std.proofs.lemmas.List.{append_assoc, append-nil, length-map}
use Rattle.std.proofs.lemmas.Nat.{pow_pos, shr_high}
use Rattle.lr_bits.specs.Bits.{number_bits, zeros_and_one}
use Rattle.lr_bits.proofs.ReaderLemmas.{length-number_bits, number_bits_of_parts}
use Rattle.lr_rice.specs.declared.choice.BlockOption.{BlockOption}
use Rattle.lr_rice.specs.declared.choice.BlockOption.TheVariants.{ZeroBlock, SecondExtension, Split, Uncoded}
use Rattle.lr_rice.specs.declared.fault.Cause.{Cause}
use Rattle.lr_rice.specs.declared.fault.Cause.TheVariants.{Ended, OutOfRange}
use Rattle.lr_rice.specs.CodedLines.{IsOption}
use Rattle.lr_rice.specs.CodedLines.{greatest}
use Rattle.lr_rice.specs.CodedLines.{identifier, pair_number, pairs_string}
use Rattle.lr_rice.specs.CodedLines.{short_width}
use Rattle.lr_rice.specs.LineFaults.{LowBitsFail, NoIdentifier, NoSequence}
use Rattle.lr_rice.specs.LineFaults.{PairsFail, SequencesFail, SplitsFail}
use Rattle.lr_rice.proofs.ItemLemmas.{long_identifier, number_bits-low, split_is}

-- ---- strings of bits

abbrev pub AreBits : List ℕ → Type 0
AreBits [] = Unit {0}
AreBits (bit ∷ string) = (bit < 2) × AreBits string

pub bits_from : (string : List ℕ) → All (λ bit. bit < 2) string → AreBits string
bits_from [] all = tt
bits_from (bit ∷ string) all = (all 0 0 (omega arith), bits_from string (λ k d inside. all (suc k) d (omega arith)))

bits_behind : (front rest : List ℕ) → AreBits (front ++ rest) → AreBits rest
bits_behind [] rest are = are
bits_behind (bit ∷ front) rest are = bits_behind front rest are.1

pub bits_after : (string front rest : List ℕ) → string ≡ front ++ rest → AreBits string → AreBits rest
bits_after string front rest is are = bits_behind front rest (subst AreBits is are)

pub none_at : (P : ℕ → Type 0) → All P []
none_at P k d inside = absurd (omega arith)

pub more_at : (P : ℕ → Type 0) (value : ℕ) (values : List ℕ) → P value → All P values → All P (value ∷ values)
more_at P value values first others zero d inside = first
more_at P value values first others (suc k) d inside = others k d (omega arith)

-- ---- sequences

abbrev pub Sequence : List ℕ → Type 0
Sequence string =
    ((m : ℕ) × (rest : List ℕ) × (string ≡ zeros_and_one m ++ rest)) ⊎ NoSequence string

zero_first : (string : List ℕ) → Sequence string → Sequence (0 ∷ string)
unfolding zeros_and_one
zero_first string (inl there) = inl (suc there.0, there.1, ap (λ l. 0 ∷ l) there.2)
zero_first string (inr none) = inr (more_at (λ bit. bit ≡ 0) 0 string refl none)

pub sequence : (string : List ℕ) → AreBits string → Sequence string
unfolding zeros_and_one
sequence [] are = inr (none_at (λ bit. bit ≡ 0))
sequence (zero ∷ string) are = zero_first string (sequence string are.1)
sequence (suc zero ∷ string) are = inl (0, string, refl)
sequence (suc (suc n) ∷ string) are = absurd (omega (arith, are.0))

-- ---- numbers

abbrev pub Number : ℕ → List ℕ → Type 0
Number width string =
    ((n : ℕ) × (rest : List ℕ) × (n < 2 ^ width) × (string ≡ number_bits width n ++ rest)) ⊎ (length string < width)

one_bit : (bit : ℕ) → bit < 2 → number_bits 1 bit ≡ bit ∷ []
unfolding number_bits
one_bit zero fits = refl
one_bit (suc zero) fits = refl
one_bit (suc (suc n)) fits = absurd (omega arith)

bit_first : (width bit n : ℕ) → bit < 2 → n < 2 ^ width
    → number_bits (suc width) (bit * 2 ^ width + n) ≡ bit ∷ number_bits width n
bit_first width bit n fits small =
    ap (λ w. number_bits w (bit * 2 ^ width + n)) (omega arith) ∙ number_bits_of_parts 1 width bit n small
    ∙ ap (λ l. l ++ number_bits width n) (one_bit bit fits)

below_double : (bit n power : ℕ) → bit < 2 → n < power → bit * power + n < 2 * power
below_double zero n power fits small = omega (arith, small)
below_double (suc zero) n power fits small = omega (arith, small)
below_double (suc (suc bit)) n power fits small = absurd (omega (arith, fits))

bit_before : (width bit : ℕ) (string : List ℕ) → bit < 2 → Number width string → Number (suc width) (bit ∷ string)
bit_before width bit string fits (inr short) = inr (omega (arith, short))
bit_before width bit string fits (inl there) = inl (
  bit * 2 ^ width + there.0,
  there.1,
  subst (λ n. bit * 2 ^ width + there.0 < n) (sym (pow-succ' 2 width))
      (below_double bit there.0 (2 ^ width) fits there.2),
  ap (λ l. bit ∷ l) there.3 ∙ ap (λ l. l ++ there.1) (sym (bit_first width bit there.0 fits there.2)),
)

pub number : (width : ℕ) (string : List ℕ) → AreBits string → Number width string
unfolding number_bits
number zero string are = inl (0, string, pow_pos 0, refl)
number (suc width) [] are = inr (omega arith)
number (suc width) (bit ∷ string) are = bit_before width bit string are.0 (number width string are.1)

-- ---- identifiers

abbrev pub Named : ℕ → List ℕ → Type 0
Named bits string =
    ((option : BlockOption) × (rest : List ℕ) × IsOption bits option × (string ≡ identifier bits option ++ rest))
    ⊎ NoIdentifier bits string

named_by : (bits n : ℕ) (rest string : List ℕ) → n < 2 ^ short_width bits
    → string ≡ number_bits (short_width bits) n ++ rest → AreBits rest → Named bits string
named_by bits zero [] string fits same are = inr (inr (same ∙ append-nil (number_bits (short_width bits) 0)))
named_by bits zero (zero ∷ rest) string fits same are =
    inl (
      ZeroBlock,
      rest,
      tt,
      long_identifier (short_width bits) (short_width bits) 0 0 string (0 ∷ rest) rest refl refl (omega arith) same
          refl,
    )
named_by bits zero (suc zero ∷ rest) string fits same are =
    inl (
      SecondExtension,
      rest,
      tt,
      long_identifier (short_width bits) (short_width bits) 0 1 string (1 ∷ rest) rest refl refl (omega arith) same
          refl,
    )
named_by bits zero (suc (suc n) ∷ rest) string fits same are = absurd (omega (arith, are.0))
named_by bits (suc k) rest string fits same are =
    let width = short_width bits in
    elim (cases_lt (k + 2) (2 ^ width)) [
      | inl less ↦ inl (Split k, rest, less, same ∙ ap (λ m. number_bits width m ++ rest) (omega arith))
      | inr more ↦
          inl (Uncoded, rest, tt, same ∙ ap (λ m. number_bits width m ++ rest) (omega (arith, fits, more)))
    ]

pub named : (bits : ℕ) (string : List ℕ) → AreBits string → Named bits string
named bits string are = elim (number (short_width bits) string are) [
  | inr short ↦ inr (inl short)
  | inl there ↦
      named_by bits there.0 there.1 string there.2 there.3
      (bits_after string (number_bits (short_width bits) there.0) there.1 there.3 are)
]

-- ---- values

-- this many values are there, each in range, coded so; or they fail
abbrev pub Values : ℕ → ℕ → (List ℕ → List ℕ) → (Cause → Type 0) → List ℕ → Type 0
Values bits n code Fail string =
    ((values : List ℕ) × (rest : List ℕ) × (length values ≡ n) × All (λ value. value ≤ greatest bits) values
    × (string ≡ code values ++ rest))
    ⊎ ((cause : Cause) × Fail cause)

sequence_more : (bits n value : ℕ) (string later : List ℕ) → string ≡ zeros_and_one value ++ later
    → value ≤ greatest bits → Values bits n (flat_map zeros_and_one) (SequencesFail bits n later) later
    → Values bits (suc n) (flat_map zeros_and_one) (SequencesFail bits (suc n) string) string
sequence_more bits n value string later is small (inr fails) =
    inr (fails.0, inr (value, later, is, inr (small, fails.1)))
sequence_more bits n value string later is small (inl there) = inl (
  value ∷ there.0,
  there.1,
  omega (arith, there.2),
  more_at (λ v. v ≤ greatest bits) value there.0 small there.3,
  is ∙ ap (λ l. zeros_and_one value ++ l) there.4
      ∙ sym (append_assoc (zeros_and_one value) (flat_map zeros_and_one there.0) there.1),
)

pub sequences : (bits n : ℕ) (string : List ℕ) → AreBits string
    → Values bits n (flat_map zeros_and_one) (SequencesFail bits n string) string
sequences bits zero string are = inl ([], string, refl, none_at (λ v. v ≤ greatest bits), refl)
sequences bits (suc n) string are = elim (sequence string are) [
  | inr none ↦ inr (Ended, inl (none, refl))
  | inl there ↦ elim (cases_lt (greatest bits) there.0) [
    | inl great ↦ inr (OutOfRange, inr (there.0, there.1, there.2, inl (great, refl)))
    | inr small ↦
        sequence_more bits n there.0 string there.1 there.2 small
        (sequences bits n there.1 (bits_after string (zeros_and_one there.0) there.1 there.2 are))
  ]
]

-- ---- values that are split

abbrev Highs : ℕ → List ℕ → Type 0
Highs n string =
    (highs : List ℕ) × (rest : List ℕ) × (string ≡ flat_map zeros_and_one highs ++ rest)
    × ((length highs ≡ n) ⊎ ((length highs < n) × NoSequence rest))

high_more : (n high : ℕ) (string later : List ℕ) → string ≡ zeros_and_one high ++ later → Highs n later
    → Highs (suc n) string
high_more n high string later is there = (
  high ∷ there.0,
  there.1,
  is ∙ ap (λ l. zeros_and_one high ++ l) there.2
      ∙ sym (append_assoc (zeros_and_one high) (flat_map zeros_and_one there.0) there.1),
  elim there.3 [ inl whole ↦ inl (ap suc whole) | inr fewer ↦ inr (omega (arith, fewer.0), fewer.1) ],
)

all_highs : (n : ℕ) (string : List ℕ) → AreBits string → Highs n string
all_highs zero string are = ([], string, refl, inl refl)
all_highs (suc n) string are = elim (sequence string are) [
  | inr none ↦ ([], string, refl, inr (omega arith, none))
  | inl there ↦
      high_more n there.0 string there.1 there.2
      (all_highs n there.1 (bits_after string (zeros_and_one there.0) there.1 there.2 are))
]

abbrev Lows : ℕ → ℕ → List ℕ → List ℕ → Type 0
Lows bits k highs string =
    ((values : List ℕ) × (rest : List ℕ) × (map (λ v. v / 2 ^ k) values ≡ highs)
    × All (λ value. value ≤ greatest bits) values × (string ≡ flat_map (number_bits k) values ++ rest))
    ⊎ ((cause : Cause) × LowBitsFail bits k highs string cause)

low_more : (bits k high low : ℕ) (highs string later : List ℕ) → low < 2 ^ k
    → string ≡ number_bits k low ++ later → high * 2 ^ k + low ≤ greatest bits → Lows bits k highs later
    → Lows bits k (high ∷ highs) string
low_more bits k high low highs string later fits is small (inr fails) =
    inr (fails.0, inr (low, later, fits, is, inr (small, fails.1)))
low_more bits k high low highs string later fits is small (inl there) = inl (
  (high * 2 ^ k + low) ∷ there.0,
  there.1,
  ap (λ h. h ∷ map (λ v. v / 2 ^ k) there.0) (shr_high high k low fits) ∙ ap (λ l. high ∷ l) there.2,
  more_at (λ v. v ≤ greatest bits) (high * 2 ^ k + low) there.0 small there.3,
  is ∙ ap (λ l. l ++ later) (sym (number_bits-low k high low fits))
      ∙ ap (λ l. number_bits k (high * 2 ^ k + low) ++ l) there.4
      ∙ sym (append_assoc (number_bits k (high * 2 ^ k + low)) (flat_map (number_bits k) there.0) there.1),
)

all_lows : (bits k : ℕ) (highs string : List ℕ) → AreBits string → Lows bits k highs string
all_lows bits k [] string are = inl ([], string, refl, none_at (λ v. v ≤ greatest bits), refl)
all_lows bits k (high ∷ highs) string are = elim (number k string are) [
  | inr short ↦ inr (Ended, inl (short, refl))
  | inl there ↦ elim (cases_lt (greatest bits) (high * 2 ^ k + there.0)) [
    | inl great ↦ inr (OutOfRange, inr (there.0, there.1, there.2, there.3, inl (great, refl)))
    | inr small ↦
        low_more bits k high there.0 highs string there.1 there.2 there.3 small
        (all_lows bits k highs there.1 (bits_after string (number_bits k there.0) there.1 there.3 are))
  ]
]

abbrev pub split_string : ℕ → List ℕ → List ℕ
split_string k values = flat_map (λ v. zeros_and_one (v / 2 ^ k)) values ++ flat_map (number_bits k) values

split_from : (bits k n : ℕ) (highs string later : List ℕ) → string ≡ flat_map zeros_and_one highs ++ later
    → length highs ≡ n → Lows bits k highs later
    → Values bits n (split_string k) (SplitsFail bits k n string) string
split_from bits k n highs string later is whole (inr fails) =
    inr (fails.0, (highs, later, is, inr (whole, fails.1)))
split_from bits k n highs string later is whole (inl there) = inl (
  there.0,
  there.1,
  sym (length-map there.0 (λ v. v / 2 ^ k)) ∙ ap length there.2 ∙ whole,
  there.3,
  split_is k highs there.0 string later there.1 is there.4 there.2,
)

pub splits : (bits k n : ℕ) (string : List ℕ) → AreBits string
    → Values bits n (split_string k) (SplitsFail bits k n string) string
splits bits k n string are =
    let highs = all_highs n string are in
    elim highs.3 [
      | inr fewer ↦ inr (Ended, (highs.0, highs.1, highs.2, inl (fewer.0, fewer.1, refl)))
      | inl whole ↦
          split_from bits k n highs.0 string highs.1 highs.2 whole
          (all_lows bits k highs.0 highs.1 (bits_after string (flat_map zeros_and_one highs.0) highs.1 highs.2 are))
    ]

-- ---- values in full

abbrev pub Fulls : ℕ → ℕ → List ℕ → Type 0
Fulls width n string =
    Values width n (flat_map (number_bits width)) (λ cause. (length string < n * width) × (cause ≡ Ended)) string

full_more : (width n value : ℕ) (string later : List ℕ) → value < 2 ^ width
    → string ≡ number_bits width value ++ later → Fulls width n later → Fulls width (suc n) string
full_more width n value string later fits is (inr fails) = inr (
  fails.0,
  (
    omega (
      arith,
      ap length is,
      length-append (number_bits width value) later,
      length-number_bits width value,
      fails.1.0,
    ),
    fails.1.1,
  ),
)
full_more width n value string later fits is (inl there) = inl (
  value ∷ there.0,
  there.1,
  omega (arith, there.2),
  more_at (λ v. v ≤ greatest width) value there.0 (omega (arith, fits)) there.3,
  is ∙ ap (λ l. number_bits width value ++ l) there.4
      ∙ sym (append_assoc (number_bits width value) (flat_map (number_bits width) there.0) there.1),
)

pub fulls : (width n : ℕ) (string : List ℕ) → AreBits string → Fulls width n string
fulls width zero string are = inl ([], string, refl, none_at (λ v. v ≤ greatest width), refl)
fulls width (suc n) string are = elim (number width string are) [
  | inr short ↦ inr (Ended, (omega (arith, short), refl))
  | inl there ↦
      full_more width n there.0 string there.1 there.2 there.3
      (fulls width n there.1 (bits_after string (number_bits width there.0) there.1 there.3 are))
]

-- ---- pairs

abbrev Unpaired : ℕ → Type 0
Unpaired m = (a : ℕ) × (b : ℕ) × (m ≡ pair_number a b)

next_pair : (m a b : ℕ) → m ≡ pair_number a b → Unpaired (suc m)
next_pair m zero b same =
    let turn : suc (pair_number 0 b) ≡ pair_number (suc b) 0 = omega arith in
    (suc b, 0, ap suc same ∙ turn)
next_pair m (suc a) b same =
    let sum : suc a + b ≡ a + suc b = omega arith in
    let turn : suc (pair_number (suc a) b) ≡ (suc a + b) * (suc a + b + 1) / 2 + suc b = omega arith in
    (a, suc b, ap suc same ∙ turn ∙ ap (λ (n : ℕ). n * (n + 1) / 2 + suc b) sum)

unpaired : (m : ℕ) → Unpaired m
unpaired zero = (0, 0, refl)
unpaired (suc m) = let pair = unpaired m in next_pair m pair.0 pair.1 pair.2

pub true_false : {A : Type 0} → true ≡ false → A
true_false same = cc

-- the first of these values isn't tested, if it is a line's
abbrev pub Tested : ℕ → Bool → List ℕ → Type 0
Tested bits lead values =
    (k : ℕ) → k < length values → (0 < k) ⊎ IsFalse lead → get_or values k 0 ≤ greatest bits

abbrev pub AllPairs : ℕ → Bool → ℕ → List ℕ → Type 0
AllPairs bits lead n string =
    ((values : List ℕ) × (rest : List ℕ) × (length values ≡ 2 * n) × Tested bits lead values
    × (string ≡ pairs_string values ++ rest))
    ⊎ ((cause : Cause) × PairsFail bits lead n string cause)

first_fits : (most a : ℕ) (lead : Bool) → (IsTrue lead ⊎ (a ≤ most)) ⊎ (IsFalse lead × (most < a))
first_fits most a true = inl (inl refl)
first_fits most a false =
    elim (cases_lt most a) [ inl great ↦ inr (refl, great) | inr small ↦ inl (inr small) ]

first_tested : (most a : ℕ) (lead : Bool) → IsTrue lead ⊎ (a ≤ most) → (0 < 0) ⊎ IsFalse lead → a ≤ most
first_tested most a lead (inr small) asked = small
first_tested most a lead (inl is) (inl never) = absurd (omega (arith, never))
first_tested most a lead (inl is) (inr other) = absurd (true_false (sym is ∙ other))

two_tested : (bits a b : ℕ) (lead : Bool) (values : List ℕ) → b ≤ greatest bits → IsTrue lead ⊎ (a ≤ greatest bits)
    → Tested bits false values → Tested bits lead (a ∷ b ∷ values)
two_tested bits a b lead values small first others zero inside asked =
    first_tested (greatest bits) a lead first asked
two_tested bits a b lead values small first others (suc zero) inside asked = small
two_tested bits a b lead values small first others (suc (suc k)) inside asked =
    others k (omega arith) (inr refl)

pair_more : (bits a b n : ℕ) (lead : Bool) (string later : List ℕ)
    → string ≡ zeros_and_one (pair_number a b) ++ later → b ≤ greatest bits → IsTrue lead ⊎ (a ≤ greatest bits)
    → AllPairs bits false n later → AllPairs bits lead (suc n) string
pair_more bits a b n lead string later is small first (inr fails) =
    inr (fails.0, inr (a, b, later, is, inr (small, first, fails.1)))
pair_more bits a b n lead string later is small first (inl there) = inl (
  a ∷ b ∷ there.0,
  there.1,
  omega (arith, there.2),
  two_tested bits a b lead there.0 small first there.3,
  is ∙ ap (λ l. zeros_and_one (pair_number a b) ++ l) there.4
      ∙ sym (append_assoc (zeros_and_one (pair_number a b)) (pairs_string there.0) there.1),
)

pub pairs : (bits : ℕ) (lead : Bool) (n : ℕ) (string : List ℕ) → AreBits string → AllPairs bits lead n string
pairs bits lead zero string are = inl ([], string, refl, (λ k inside asked. absurd (omega arith)), refl)
pairs bits lead (suc n) string are = elim (sequence string are) [
  | inr none ↦ inr (Ended, inl (none, refl))
  | inl there ↦
      let pair = unpaired there.0 in
      let is : string ≡ zeros_and_one (pair_number pair.0 pair.1) ++ there.1 =
      there.2 ∙ ap (λ m. zeros_and_one m ++ there.1) pair.2 in
      elim (cases_lt (greatest bits) pair.1) [
        | inl great ↦ inr (OutOfRange, inr (pair.0, pair.1, there.1, is, inl (inl great, refl)))
        | inr small ↦ elim (first_fits (greatest bits) pair.0 lead) [
          | inr wrong ↦ inr (OutOfRange, inr (pair.0, pair.1, there.1, is, inl (inr wrong, refl)))
          | inl first ↦
              pair_more bits pair.0 pair.1 n lead string there.1 is small first
              (pairs bits false n there.1 (bits_after string (zeros_and_one there.0) there.1 there.2 are))
        ]
      ]
]
