-- Strings of bits, and the bytes that they fill.
use Rattle.std.proofs.Common.{◌≡◌, ◌==◌, ℕ, zero, suc, ◌+◌, ◌-◌, ◌*◌, ◌/◌, ◌^◌, ◌<◌, ◌≤◌, Bool, true, false, List, []}
use Rattle.std.proofs.Common.{◌∷◌, ◌++◌, length, take, drop, All, refl, sym, ap, ◌∙◌, arith, length-append}
use Rattle.std.specs.Prelude.{replicate}
use Rattle.std.specs.List.{flat_map}
use Rattle.std.proofs.lemmas.List.{length-drop, length-replicate, length-take-le, take-append-drop}
use Rattle.std.proofs.Math.Nat.{pow-succ'}
use Rattle.std.proofs.lemmas.Nat.Bits.{bit_at-lt}
use Rattle.lr_bits.specs.Bits.{bits_of, number_bits, zeros_and_one}
use Rattle.lr_bits.proofs.ReaderLemmas.{bits_of-cons, bits_of-nil, number_bits_of_parts}
use Rattle.lr_rice.specs.declared.choice.BlockOption.{BlockOption}
use Rattle.lr_rice.specs.declared.choice.BlockOption.TheVariants.{SecondExtension, Split, Uncoded, ZeroBlock}
use Rattle.lr_rice.specs.CodedLines.{Form, Halves, Numbers, Pairs, Part, Zeros, block_count, body_string, head_string}
use Rattle.lr_rice.specs.CodedLines.{identifier, left_in_segment, option_of, pair_number, pairs_string, part_string}
use Rattle.lr_rice.specs.CodedLines.{short_width, span_of, string_from}
use Rattle.lr_rice.proofs.EachItem.{AreBits, bits_after, more_at, none_at}
use Rattle.lr_rice_coder.specs.Coded.{ArePaddedBits, byte_count}
use Rattle.lr_rice_coder.specs.Shortest.{line_places, parts_from, shortest_string}

-- ---- strings of bits

both_bits : (front rest : List ℕ) → AreBits front → AreBits rest → AreBits (front ++ rest)
both_bits [] rest one two = two
both_bits (bit ∷ front) rest one two = (one.0, both_bits front rest one.1 two)

number_bits-bits : (width n : ℕ) → AreBits (number_bits width n)
unfolding number_bits
number_bits-bits zero n = tt
number_bits-bits (suc width) n = (bit_at-lt n width, number_bits-bits width n)

sequence-bits : (n : ℕ) → AreBits (zeros_and_one n)
unfolding zeros_and_one
sequence-bits zero = (omega arith, tt)
sequence-bits (suc n) = (omega arith, sequence-bits n)

zeros-bits : (n : ℕ) → AreBits (replicate n 0)
zeros-bits zero = tt
zeros-bits (suc n) = (omega arith, zeros-bits n)

each-bits : (f : ℕ → List ℕ) → ((value : ℕ) → AreBits (f value)) → (values : List ℕ) → AreBits (flat_map f values)
each-bits f are [] = tt
each-bits f are (value ∷ values) =
    both_bits (f value) (flat_map f values) (are value) (each-bits f are values)

pairs-bits : (values : List ℕ) → AreBits (pairs_string values)
pairs-bits [] = tt
pairs-bits (a ∷ []) = tt
pairs-bits (a ∷ b ∷ values) =
    both_bits (zeros_and_one (pair_number a b)) (pairs_string values) (sequence-bits (pair_number a b))
    (pairs-bits values)

identifier-bits : (bits : ℕ) (option : BlockOption) → AreBits (identifier bits option)
identifier-bits bits ZeroBlock = number_bits-bits (short_width bits + 1) 0
identifier-bits bits SecondExtension = number_bits-bits (short_width bits + 1) 1
identifier-bits bits (Split k) = number_bits-bits (short_width bits) (k + 1)
identifier-bits bits Uncoded = number_bits-bits (short_width bits) (2 ^ short_width bits - 1)

head-bits : (bits : ℕ) (first : Bool) (reference : ℕ) (option : BlockOption)
    → AreBits (head_string bits first reference option)
head-bits bits true reference option =
    both_bits (identifier bits option) (number_bits bits reference) (identifier-bits bits option)
    (number_bits-bits bits reference)
head-bits bits false reference option =
    both_bits (identifier bits option) [] (identifier-bits bits option) tt

body-bits : (bits : ℕ) (first : Bool) (part : Part) → AreBits (body_string bits first part)
body-bits bits first (Zeros m) = sequence-bits m
body-bits bits true (Pairs lead values) = pairs-bits (lead ∷ values)
body-bits bits false (Pairs lead values) = pairs-bits values
body-bits bits first (Halves k values) =
    both_bits (flat_map (λ (value : ℕ). zeros_and_one (value / 2 ^ k)) values) (flat_map (number_bits k) values)
    (each-bits (λ (value : ℕ). zeros_and_one (value / 2 ^ k)) (λ value. sequence-bits (value / 2 ^ k)) values)
    (each-bits (number_bits k) (number_bits-bits k) values)
body-bits bits first (Numbers values) = each-bits (number_bits bits) (number_bits-bits bits) values

parts-bits : (form : Form) (reference at : ℕ) (parts : List Part) → AreBits (string_from form reference at parts)
parts-bits form reference at [] = tt
parts-bits form reference at (part ∷ parts) =
    let first = at == 0 in
    let next = at + span_of (left_in_segment form at) part in
    both_bits (part_string form.bits first reference part) (string_from form reference next parts)
    (both_bits (head_string form.bits first reference (option_of part)) (body_string form.bits first part)
    (head-bits form.bits first reference (option_of part)) (body-bits form.bits first part))
    (parts-bits form reference next parts)

pub shortest-bits : (form : Form) (samples : List ℕ) → AreBits (shortest_string form samples)
shortest-bits form [] = tt
shortest-bits form (reference ∷ samples) =
    parts-bits form reference 0 (parts_from form (line_places form (reference ∷ samples)) (block_count form) 0)

-- ---- bytes

front-bits : (n : ℕ) (bits : List ℕ) → AreBits bits → AreBits (take n bits)
front-bits zero bits are = tt
front-bits (suc n) [] are = tt
front-bits (suc n) (bit ∷ bits) are = (are.0, front-bits n bits are.1)

-- the number that bits write
value_of : List ℕ → ℕ
value_of [] = 0
value_of (bit ∷ bits) = bit * 2 ^ length bits + value_of bits

value-small : (bits : List ℕ) → AreBits bits → value_of bits < 2 ^ length bits
unfolding value_of
value-small [] are = omega arith
value-small (bit ∷ bits) are =
    let rest = value-small bits are.1 in
    let top : bit * 2 ^ length bits ≤ 2 ^ length bits = at_most bit (2 ^ length bits) are.0 in
    let twice : 2 ^ suc (length bits) ≡ 2 * 2 ^ length bits = pow-succ' 2 (length bits) in
    omega (arith, rest, top, twice)
  where
    at_most : (bit n : ℕ) → bit < 2 → bit * n ≤ n
    at_most zero n small = omega arith
    at_most (suc zero) n small = omega arith
    at_most (suc (suc bit)) n small = absurd (omega (arith, small))

one-bit : (bit : ℕ) → bit < 2 → number_bits 1 bit ≡ bit ∷ []
unfolding number_bits
one-bit zero small = refl
one-bit (suc zero) small = refl
one-bit (suc (suc bit)) small = absurd (omega (arith, small))

no-bits : number_bits 0 0 ≡ []
unfolding number_bits
no-bits = refl

value-bits : (bits : List ℕ) → AreBits bits → number_bits (length bits) (value_of bits) ≡ bits
unfolding value_of
value-bits [] are = no-bits
value-bits (bit ∷ bits) are =
    let wide : suc (length bits) ≡ 1 + length bits = omega arith in
    ap (λ (w : ℕ). number_bits w (bit * 2 ^ length bits + value_of bits)) wide
    ∙ number_bits_of_parts 1 (length bits) bit (value_of bits) (value-small bits are.1)
    ∙ ap (λ (front : List ℕ). front ++ number_bits (length bits) (value_of bits)) (one-bit bit are.0)
    ∙ ap (λ (rest : List ℕ). bit ∷ rest) (value-bits bits are.1)

-- this many bytes, of eight bits each
bytes_in : ℕ → List ℕ → List ℕ
bytes_in zero bits = []
bytes_in (suc n) bits = value_of (take 8 bits) ∷ bytes_in n (drop 8 bits)

module _ where
  bytes-small : (n : ℕ) (bits : List ℕ) → AreBits bits → 8 * n ≤ length bits
      → All (λ byte. byte < 256) (bytes_in n bits)
  unfolding bytes_in
  bytes-small zero bits are long = none_at (λ (byte : ℕ). byte < 256)
  bytes-small (suc n) bits are long =
      let eight : length (take 8 bits) ≡ 8 = length-take-le 8 bits (omega (arith, long)) in
      let small = value-small (take 8 bits) (front-bits 8 bits are) in
      let power : 2 ^ length (take 8 bits) ≡ 256 = ap (λ (k : ℕ). 2 ^ k) eight in
      more_at (λ (byte : ℕ). byte < 256) (value_of (take 8 bits)) (bytes_in n (drop 8 bits))
      (omega (arith, small, power))
      (bytes-small n (drop 8 bits) (bits_after bits (take 8 bits) (drop 8 bits) (sym (take-append-drop 8 bits)) are)
      (omega (arith, long, length-drop 8 bits)))

  bytes-length : (n : ℕ) (bits : List ℕ) → length (bytes_in n bits) ≡ n
  unfolding bytes_in
  bytes-length zero bits = refl
  bytes-length (suc n) bits = ap suc (bytes-length n (drop 8 bits))

  bytes-bits : (n : ℕ) (bits : List ℕ) → AreBits bits → length bits ≡ 8 * n → bits_of (bytes_in n bits) ≡ bits
  unfolding bytes_in
  bytes-bits zero [] are long = bits_of-nil
  bytes-bits zero (bit ∷ bits) are long = absurd (omega (arith, long))
  bytes-bits (suc n) bits are long =
      let eight : length (take 8 bits) ≡ 8 = length-take-le 8 bits (omega (arith, long)) in
      let rest = bits_after bits (take 8 bits) (drop 8 bits) (sym (take-append-drop 8 bits)) are in
      bits_of-cons (value_of (take 8 bits)) (bytes_in n (drop 8 bits))
      ∙ ap (λ (w : ℕ). number_bits w (value_of (take 8 bits)) ++ bits_of (bytes_in n (drop 8 bits))) (sym eight)
      ∙ ap (λ (front : List ℕ). front ++ bits_of (bytes_in n (drop 8 bits)))
      (value-bits (take 8 bits) (front-bits 8 bits are))
      ∙ ap (λ (back : List ℕ). take 8 bits ++ back)
      (bytes-bits n (drop 8 bits) rest (omega (arith, long, length-drop 8 bits)))
      ∙ take-append-drop 8 bits

-- a string with zeros after it, in bytes
pub record Filled (string : List ℕ) : Type 0 where
  pub bytes : List ℕ
  pub small : All (λ byte. byte < 256) bytes
  pub fills : ArePaddedBits bytes string
  pub count : length bytes ≡ byte_count string

pub filled : (string : List ℕ) → AreBits string → Filled string
filled string are =
    let count = byte_count string in
    let zeros = 8 * count - length string in
    let padded : List ℕ = string ++ replicate zeros 0 in
    let size : length padded ≡ 8 * count =
    omega (arith, length-append string (replicate zeros 0), length-replicate {A = ℕ} zeros 0) in
    let bits = both_bits string (replicate zeros 0) are (zeros-bits zeros) in
    record {
      bytes = bytes_in count padded;
      small = bytes-small count padded bits (omega (arith, size));
      fills = record { zeros = zeros; few = omega arith; whole = bytes-bits count padded bits size };
      count = bytes-length count padded;
    }
