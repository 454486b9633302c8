-- Items one after another: sequences, numbers and pairs.
use Rattle.std.proofs.Common.{◌≡◌, ◌⊎◌, ℕ, zero, suc, ◌+◌, ◌*◌, ◌/◌, ◌%◌, ◌^◌, ◌<◌, ◌≤◌, Bool, true, false, List, []}
use Rattle.std.proofs.Common.{◌∷◌, ◌++◌, length, get_or, take, drop, set, map, All, refl, sym, ap, ◌∙◌, subst, arith}
use Rattle.std.proofs.Common.{inl, inr, ⊎_elim, length-append}
use Rattle.std.specs.Prelude.{IsFalse, IsTrue, Result, Ok, Err, OnOk}
use Rattle.std.specs.List.{flat_map}
use Rattle.std.proofs.Math.Nat.{le-mul_of_pos_right}
use Rattle.std.proofs.lemmas.Bool.{cases_lt}
use Rattle.std.proofs.lemmas.List.{append_assoc, append-nil, drop_more, drop-drop, get_or-drop, get_or-take}
use Rattle.std.proofs.lemmas.List.{take-append-drop, get_or_default, get_or-set_same, get_or-set_other, length-take-le}
use Rattle.std.proofs.lemmas.List.Concat.{flat_map-append}
use Rattle.std.proofs.lemmas.Nat.{pow_pos, shr_split, mod_below}
use Rattle.std.proofs.lemmas.Nat.Bits.{bit_at_cat_low}
use Rattle.lr_bits.specs.Bits.{number_bits, zeros_and_one}
use Rattle.lr_bits.proofs.ReaderLemmas.{length-number_bits, same_number_bits, number_bits_of_parts}
use Rattle.lr_rice.specs.declared.fault.Cause.{Cause}
use Rattle.lr_rice.specs.declared.fault.Cause.TheVariants.{OutOfRange}
use Rattle.lr_rice.specs.CodedLines.{greatest, pair_number, pairs_string}
use Rattle.lr_rice.specs.LineFaults.{SequencesFail, LowBitsFail, PairsFail}

-- ---- lists of items

-- one item more
pub item_more : (f : ℕ → List ℕ) (front : List ℕ) (value : ℕ) (whole now rest : List ℕ)
    → whole ≡ flat_map f front ++ now → now ≡ f value ++ rest →
    whole ≡ flat_map f (front ++ value ∷ []) ++ rest
item_more f front value whole now rest is more =
    is ∙ ap (λ l. flat_map f front ++ l) more ∙ sym (append_assoc (flat_map f front) (f value) rest)
    ∙ ap (λ l. l ++ rest) (ap (λ l. flat_map f front ++ l) (sym (append-nil (f value)))
    ∙ sym (flat_map-append f front (value ∷ [])))

-- what holds of each element up to one holds with this one too
pub below_set : (P : ℕ → Type 0) (xs : List ℕ) (i x : ℕ) → i < length xs → ((k : ℕ) → k < i → P (get_or xs k 0)) → P x →
    (k : ℕ) → k < i + 1 → P (get_or (set xs i x) k 0)
below_set P xs i x inside before here k below =
    elim (cases_lt k i) [
      | inl less ↦ subst P (sym (get_or-set_other xs i k x 0 (λ same. absurd (omega arith)))) (before k less)
      | inr not_less ↦
          let same : k ≡ i = omega arith in
          subst P (sym (ap (λ j. get_or (set xs i x) j 0) same ∙ get_or-set_same xs i x 0 inside)) here
    ]

pub All-from_each : (P : ℕ → Type 0) (xs : List ℕ) → ((k : ℕ) → k < length xs → P (get_or xs k 0)) → All P xs
All-from_each P xs each k d inside = subst P (get_or_default xs k 0 d inside) (each k inside)

pub length-flat_map_numbers : (width : ℕ) (values : List ℕ)
    → length (flat_map (number_bits width) values) ≡ length values * width
length-flat_map_numbers width [] = omega arith
length-flat_map_numbers width (value ∷ values) =
    length-append (number_bits width value) (flat_map (number_bits width) values)
    ∙ omega (arith, length-number_bits width value, length-flat_map_numbers width values)

-- only the low bits are written
pub number_bits-low : (k high low : ℕ) → low < 2 ^ k → number_bits k (high * 2 ^ k + low) ≡ number_bits k low
number_bits-low k high low fits =
    same_number_bits k (high * 2 ^ k + low) low (λ i inside. bit_at_cat_low high k low i inside)

pub number_bits-mod : (k value : ℕ) → number_bits k value ≡ number_bits k (value % 2 ^ k)
number_bits-mod k value = ap (number_bits k) (sym (shr_split value k))
    ∙ number_bits-low k (value / 2 ^ k) (value % 2 ^ k) (mod_below value (2 ^ k) (pow_pos k))

one_bit : (bit : ℕ) → bit < 2 → number_bits 1 bit ≡ bit ∷ []
unfolding number_bits
one_bit zero fits = refl
one_bit (suc zero) fits = refl
one_bit (suc (suc n)) fits = absurd (omega arith)

-- a number with one bit more at its end
pub number_bits-push : (width n bit : ℕ) → bit < 2
    → number_bits (width + 1) (n * 2 + bit) ≡ number_bits width n ++ bit ∷ []
number_bits-push width n bit fits = number_bits_of_parts width 1 n bit fits
    ∙ ap (λ l. number_bits width n ++ l) (one_bit bit fits)

first_tested : {a most : ℕ} (first : Bool) → ((0 < 0) ⊎ IsFalse first → a ≤ most) → IsTrue first ⊎ (a ≤ most)
first_tested true small = inl refl
first_tested false small = inr (small (inr refl))

-- ---- identifiers

-- the bit after a short identifier of zeros
pub long_identifier : (width short number bit : ℕ) (string now rest : List ℕ) → width ≡ short → number ≡ 0
    → bit < 2 → string ≡ number_bits width number ++ now → now ≡ bit ∷ rest →
    string ≡ number_bits (short + 1) bit ++ rest
long_identifier width short number bit string now rest same none fits is more =
    let front : number_bits width number ++ bit ∷ [] ≡ number_bits (short + 1) bit =
    ap (λ n. number_bits width n ++ bit ∷ []) none ∙ ap (λ w. number_bits w 0 ++ bit ∷ []) same
    ∙ sym (number_bits-push short 0 bit fits) ∙ ap (number_bits (short + 1)) (omega arith) in
    is ∙ ap (λ l. number_bits width number ++ l) more
    ∙ sym (append_assoc (number_bits width number) (bit ∷ []) rest) ∙ ap (λ l. l ++ rest) front

-- ---- faults after items that are there

pub SequencesFail-behind : (bits : ℕ) (front : List ℕ) (n m : ℕ) (whole rest : List ℕ) (cause : Cause)
    → m ≡ length front + n →
    ((k : ℕ) → k < length front → get_or front k 0 ≤ greatest bits)
    → whole ≡ flat_map zeros_and_one front ++ rest → SequencesFail bits n rest cause → SequencesFail bits m whole cause
SequencesFail-behind bits [] n m whole rest cause size small is fails =
    subst (λ j. SequencesFail bits j whole cause) (sym (size ∙ omega arith))
    (subst (λ l. SequencesFail bits n l cause) (sym is) fails)
SequencesFail-behind bits (value ∷ front) n zero whole rest cause size small is fails = absurd (omega arith)
SequencesFail-behind bits (value ∷ front) n (suc m) whole rest cause size small is fails =
    let later = flat_map zeros_and_one front ++ rest in
    inr (
      value,
      later,
      is ∙ append_assoc (zeros_and_one value) (flat_map zeros_and_one front) rest,
      inr (
        small 0 (omega arith),
        SequencesFail-behind bits front n m later rest cause (omega arith)
            (λ k inside. small (suc k) (omega arith)) refl fails,
      ),
    )

pub LowBitsFail-behind : (bits k : ℕ) (front highs : List ℕ) (whole rest : List ℕ) (cause : Cause) →
    ((j : ℕ) → j < length front → get_or front j 0 ≤ greatest bits)
    → whole ≡ flat_map (number_bits k) front ++ rest → LowBitsFail bits k highs rest cause →
    LowBitsFail bits k (map (λ value. value / 2 ^ k) front ++ highs) whole cause
LowBitsFail-behind bits k [] highs whole rest cause small is fails =
    subst (λ l. LowBitsFail bits k highs l cause) (sym is) fails
LowBitsFail-behind bits k (value ∷ front) highs whole rest cause small is fails =
    let later = flat_map (number_bits k) front ++ rest in
    let back : value / 2 ^ k * 2 ^ k + value % 2 ^ k ≡ value = shr_split value k in
    inr (
      value % 2 ^ k,
      later,
      mod_below value (2 ^ k) (pow_pos k),
      is ∙ append_assoc (number_bits k value) (flat_map (number_bits k) front) rest
          ∙ ap (λ l. l ++ later) (number_bits-mod k value),
      inr (
        omega (arith, back, small 0 (omega arith)),
        LowBitsFail-behind bits k front highs later rest cause (λ j inside. small (suc j) (omega arith)) refl fails,
      ),
    )

-- at place i, where the values before it were read
pub LowBitsFail-at : (bits k : ℕ) (old now : List ℕ) (i : ℕ) (whole rest : List ℕ) (cause : Cause)
    → i < length old → map (λ value. value / 2 ^ k) (take i now) ≡ take i old →
    length now ≡ length old → ((j : ℕ) → j < i → get_or now j 0 ≤ greatest bits)
    → whole ≡ flat_map (number_bits k) (take i now) ++ rest →
    LowBitsFail bits k (get_or old i 0 ∷ drop (i + 1) old) rest cause → LowBitsFail bits k old whole cause
LowBitsFail-at bits k old now i whole rest cause inside highs same small is fails =
    let front : length (take i now) ≡ i = length-take-le i now (omega (arith, same)) in
    let all : map (λ value. value / 2 ^ k) (take i now) ++ (get_or old i 0 ∷ drop (i + 1) old) ≡ old =
    ap (λ l. l ++ (get_or old i 0 ∷ drop (i + 1) old)) highs
    ∙ ap (λ l. take i old ++ l) (sym (drop_more old i 0 inside)) ∙ take-append-drop i old in
    subst (λ l. LowBitsFail bits k l whole cause) all
    (LowBitsFail-behind bits k (take i now) (get_or old i 0 ∷ drop (i + 1) old) whole rest cause
    (λ j before. subst (λ v. v ≤ greatest bits) (sym (get_or-take i now j 0 (omega (arith, front))))
    (small j (omega (arith, front)))) is fails)

pub same_at : (a b : List ℕ) (i : ℕ) → drop i a ≡ drop i b → get_or a i 0 ≡ get_or b i 0
same_at a b i same =
    ap (λ j. get_or a j 0) (omega arith) ∙ sym (get_or-drop i a 0 0) ∙ ap (λ l. get_or l 0 0) same
    ∙ get_or-drop i b 0 0 ∙ ap (λ j. get_or b j 0) (omega arith)

pub same_behind : (a b : List ℕ) (i : ℕ) → drop i a ≡ drop i b → drop (i + 1) a ≡ drop (i + 1) b
same_behind a b i same = sym (drop-drop 1 i a) ∙ ap (drop 1) same ∙ drop-drop 1 i b

pub too_great : (most high k low : ℕ) → most < high → most < high * 2 ^ k + low
too_great most high k low great = omega (arith, le-mul_of_pos_right high (pow_pos k))

-- ---- pairs

pub pairs_string-push : (front : List ℕ) (a b : ℕ) → length front % 2 ≡ 0
    → pairs_string (front ++ a ∷ b ∷ []) ≡ pairs_string front ++ zeros_and_one (pair_number a b)
pairs_string-push [] a b even = append-nil (zeros_and_one (pair_number a b))
pairs_string-push (x ∷ []) a b even = absurd (omega arith)
pairs_string-push (x ∷ y ∷ front) a b even =
    ap (λ l. zeros_and_one (pair_number x y) ++ l) (pairs_string-push front a b (omega arith))
    ∙ sym (append_assoc (zeros_and_one (pair_number x y)) (pairs_string front) (zeros_and_one (pair_number a b)))

pub PairsFail-behind : (bits : ℕ) (front : List ℕ) (n m : ℕ) (whole rest : List ℕ) (cause : Cause)
    → length front % 2 ≡ 0 → m ≡ length front / 2 + n →
    ((k : ℕ) → k < length front → get_or front k 0 ≤ greatest bits) → whole ≡ pairs_string front ++ rest
    → PairsFail bits false n rest cause → PairsFail bits false m whole cause
PairsFail-behind bits [] n m whole rest cause even size small is fails =
    subst (λ j. PairsFail bits false j whole cause) (sym (size ∙ omega arith))
    (subst (λ l. PairsFail bits false n l cause) (sym is) fails)
PairsFail-behind bits (a ∷ []) n m whole rest cause even size small is fails = absurd (omega arith)
PairsFail-behind bits (a ∷ b ∷ front) n zero whole rest cause even size small is fails = absurd (omega arith)
PairsFail-behind bits (a ∷ b ∷ front) n (suc m) whole rest cause even size small is fails =
    let later = pairs_string front ++ rest in
    inr (
      a,
      b,
      later,
      is ∙ append_assoc (zeros_and_one (pair_number a b)) (pairs_string front) rest,
      inr (
        small 1 (omega arith),
        inr (small 0 (omega arith)),
        PairsFail-behind bits front n m later rest cause (omega arith) (omega arith)
            (λ k inside. small (suc (suc k)) (omega arith)) refl fails,
      ),
    )

-- whether the next pair is the leading one
abbrev pub lead_of : Bool → List ℕ → Bool
lead_of first [] = first
lead_of first (x ∷ front) = false

-- the same, where the first value of the line isn't tested
pub PairsFail-at : (bits : ℕ) (first : Bool) (front : List ℕ) (n m : ℕ) (whole rest : List ℕ) (cause : Cause)
    → length front % 2 ≡ 0 → m ≡ length front / 2 + n →
    ((k : ℕ) → k < length front → (0 < k) ⊎ IsFalse first → get_or front k 0 ≤ greatest bits)
    → whole ≡ pairs_string front ++ rest →
    PairsFail bits (lead_of first front) n rest cause → PairsFail bits first m whole cause
PairsFail-at bits first [] n m whole rest cause even size small is fails =
    subst (λ j. PairsFail bits first j whole cause) (sym (size ∙ omega arith))
    (subst (λ l. PairsFail bits first n l cause) (sym is) fails)
PairsFail-at bits first (a ∷ []) n m whole rest cause even size small is fails = absurd (omega arith)
PairsFail-at bits first (a ∷ b ∷ front) n zero whole rest cause even size small is fails = absurd (omega arith)
PairsFail-at bits first (a ∷ b ∷ front) n (suc m) whole rest cause even size small is fails =
    let later = pairs_string front ++ rest in
    let lead : IsTrue first ⊎ (a ≤ greatest bits) = first_tested first (small 0 (omega arith)) in
    inr (
      a,
      b,
      later,
      is ∙ append_assoc (zeros_and_one (pair_number a b)) (pairs_string front) rest,
      inr (
        small 1 (omega arith) (inl (omega arith)),
        lead,
        PairsFail-behind bits front n m later rest cause (omega arith) (omega arith)
            (λ k inside. small (suc (suc k)) (omega arith) (inl (omega arith))) refl fails,
      ),
    )

pub lead_of-is : (first lead : Bool) (values : List ℕ) (i : ℕ) → 2 * i ≤ length values → (i ≡ 0 → lead ≡ first)
    → (0 < i → lead ≡ false) → lead ≡ lead_of first (take (2 * i) values)
lead_of-is first lead values zero inside here later = here refl
lead_of-is first lead [] (suc i) inside here later = absurd (omega arith)
lead_of-is first lead (value ∷ values) (suc i) inside here later =
    later (omega arith) ∙ ap (λ n. lead_of first (take n (value ∷ values))) turn
  where
    turn : suc (suc (2 * i)) ≡ 2 * suc i
    turn = omega arith

-- ---- plain blocks

flat_map-numbers_of_none : (values : List ℕ) → flat_map (number_bits 0) values ≡ []
unfolding number_bits
flat_map-numbers_of_none [] = refl
flat_map-numbers_of_none (value ∷ values) = flat_map-numbers_of_none values

flat_map-map : (f : ℕ → List ℕ) (g : ℕ → ℕ) (values : List ℕ)
    → flat_map f (map g values) ≡ flat_map (λ v. f (g v)) values
flat_map-map f g [] = refl
flat_map-map f g (value ∷ values) = ap (λ l. f (g value) ++ l) (flat_map-map f g values)

flat_map-whole : (values : List ℕ) → flat_map (λ v. zeros_and_one (v / 2 ^ 0)) values ≡ flat_map zeros_and_one values
flat_map-whole [] = refl
flat_map-whole (value ∷ values) =
    let same : value / 2 ^ 0 ≡ value = omega arith in
    ap (λ v. zeros_and_one v ++ flat_map (λ w. zeros_and_one (w / 2 ^ 0)) values) same
    ∙ ap (λ l. zeros_and_one value ++ l) (flat_map-whole values)

-- a split by 0 bits is the fundamental sequence
pub split_by_none : (values : List ℕ) → flat_map (λ v. zeros_and_one (v / 2 ^ 0)) values ++ flat_map
    (number_bits 0) values ≡ flat_map zeros_and_one values
split_by_none values =
    ap (λ l. flat_map (λ v. zeros_and_one (v / 2 ^ 0)) values ++ l) (flat_map-numbers_of_none values)
    ∙ append-nil (flat_map (λ v. zeros_and_one (v / 2 ^ 0)) values) ∙ flat_map-whole values

-- high parts, and then low ones
pub split_is : (k : ℕ) (highs values whole now rest : List ℕ) → whole ≡ flat_map zeros_and_one highs ++ now
    → now ≡ flat_map (number_bits k) values ++ rest →
    map (λ v. v / 2 ^ k) values ≡ highs
    → whole ≡ (flat_map (λ v. zeros_and_one (v / 2 ^ k)) values ++ flat_map (number_bits k) values) ++ rest
split_is k highs values whole now rest is more same =
    is ∙ ap (λ l. flat_map zeros_and_one highs ++ l) more
    ∙ ap (λ l. flat_map zeros_and_one l ++ (flat_map (number_bits k) values ++ rest)) (sym same)
    ∙ ap (λ l. l ++ (flat_map (number_bits k) values ++ rest)) (flat_map-map zeros_and_one (λ v. v / 2 ^ k) values)
    ∙ sym (append_assoc (flat_map (λ v. zeros_and_one (v / 2 ^ k)) values) (flat_map (number_bits k) values) rest)

pub OnOk_from : {T E : Type 0} (r : Result T E) (P Q : Type 0) → (P → Q) → OnOk r P → OnOk r Q
OnOk_from (Ok x) P Q f p = f p
OnOk_from (Err e) P Q f p = p

pub OnOk_both : {T E : Type 0} (r : Result T E) (P Q : Type 0) → OnOk r P → OnOk r Q → OnOk r (P × Q)
OnOk_both (Ok x) P Q p q = (p, q)
OnOk_both (Err e) P Q p q = p

true_false : {A : Type 0} → true ≡ false → A
true_false same = cc

zero_or : (i : ℕ) → (i ≡ 0) ⊎ (0 < i)
zero_or zero = inl refl
zero_or (suc i) = inr (omega arith)

-- a pair that isn't in range
pub pair_fails : (bits most : ℕ) (tested lead : Bool) (n a b : ℕ) (string rest : List ℕ) (cause : Cause)
    → most ≡ greatest bits → tested ≡ lead →
    string ≡ zeros_and_one (pair_number a b) ++ rest → ((most < b) ⊎ (IsFalse tested × (most < a)))
    × (cause ≡ OutOfRange) → PairsFail bits lead (suc n) string cause
pair_fails bits most tested lead n a b string rest cause is same read fails =
    inr (
      a,
      b,
      rest,
      read,
      inl (
        ⊎_elim (λ great. inl (omega (arith, is))) (λ both. inr (sym same ∙ both.0, omega (arith, is, both.1))) fails.0,
        fails.1,
      ),
    )

-- a pair that is
pub pair_small : (bits most : ℕ) (first tested : Bool) (i a b : ℕ) → most ≡ greatest bits
    → (0 < i → tested ≡ false) → (i ≡ 0 → tested ≡ first) →
    (b ≤ most) × (IsTrue tested ⊎ (a ≤ most)) → (b ≤ greatest bits) × ((0 < 2 * i) ⊎ IsFalse first → a ≤ greatest bits)
pair_small bits most first tested i a b is later here both =
    let both_ways : IsTrue tested → (0 < 2 * i) ⊎ IsFalse first → a ≤ greatest bits =
    λ lead. ⊎_elim
    (λ late. absurd (true_false (sym lead ∙ later (omega arith))))
    (λ none. ⊎_elim (λ zero_i. absurd (true_false (sym lead ∙ here zero_i ∙ none)))
    (λ late. absurd (true_false (sym lead ∙ later late))) (zero_or i)) in
    (omega (arith, is, both.0), λ asked. ⊎_elim (λ lead. both_ways lead asked) (λ small. omega (arith, is)) both.1)
