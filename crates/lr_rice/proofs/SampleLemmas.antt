-- Samples and their mapped values.
use Rattle.std.proofs.Common.{◌≡◌, ◌⊎◌, ℕ, zero, suc, ◌+◌, ◌-◌, ◌*◌, ◌/◌, ◌%◌, ◌<◌, ◌≤◌, min, List, [], ◌∷◌, ◌++◌}
use Rattle.std.proofs.Common.{length, get_or, take, drop, replicate, refl, sym, ap, ◌∙◌, subst, arith, inl, inr}
use Rattle.std.proofs.lemmas.Bool.{cases_lt}
use Rattle.std.proofs.lemmas.Bool.Decides.{nat_tests}
use Rattle.std.proofs.lemmas.List.{take_at, take-append-drop, take_all, append_assoc, append-nil, nil_from_length}
use Rattle.std.proofs.lemmas.List.{length-take-le}
use Rattle.lr_rice.specs.CodedLines.{mapped_value, HaveValues}
use Rattle.lr_rice.specs.Samples.{sample_of, samples_from, sample_after, places_after}

-- ---- one sample

pub sample_of-even : (most p value : ℕ) → value ≤ 2 * min p (most - p) → value % 2 ≡ 0
    → sample_of most p value ≡ p + value / 2
unfolding sample_of
sample_of-even most p value near even = grind (arith, nat_tests)

pub sample_of-odd : (most p value : ℕ) → value ≤ 2 * min p (most - p) → value % 2 ≡ 1
    → sample_of most p value ≡ p - (value + 1) / 2
unfolding sample_of
sample_of-odd most p value near odd = grind (arith, nat_tests)

pub sample_of-up : (most p value : ℕ) → 2 * min p (most - p) < value → p ≤ most - p → sample_of most p value ≡ value
unfolding sample_of
sample_of-up most p value far low = grind (arith, nat_tests)

pub sample_of-down : (most p value : ℕ) → 2 * min p (most - p) < value → most - p < p
    → sample_of most p value ≡ most - value
unfolding sample_of
sample_of-down most p value far high = grind (arith, nat_tests)

mapped-up_near : (most p x : ℕ) → p ≤ x → x - p ≤ min p (most - p) → mapped_value most p x ≡ 2 * (x - p)
mapped-up_near most p x up near = grind (arith, nat_tests)

mapped-up_far : (most p x : ℕ) → p ≤ x → min p (most - p) < x - p → mapped_value most p x ≡ min p (most - p) + (x - p)
mapped-up_far most p x up far = grind (arith, nat_tests)

mapped-down_near : (most p x : ℕ) → x < p → p - x ≤ min p (most - p) → mapped_value most p x ≡ 2 * (p - x) - 1
mapped-down_near most p x down near = grind (arith, nat_tests)

mapped-down_far : (most p x : ℕ) → x < p → min p (most - p) < p - x → mapped_value most p x ≡ min p (most - p) + (p - x)
mapped-down_far most p x down far = grind (arith, nat_tests)

-- the sample has the mapped value, and is in range
pub sample_of-is : (most p value : ℕ) → p ≤ most → value ≤ most → (sample_of most p value ≤ most)
    × (mapped_value most p (sample_of most p value) ≡ value)
sample_of-is most p value in_range small =
    let P : ℕ → Type 0 = λ x. (x ≤ most) × (mapped_value most p x ≡ value) in
    elim (cases_lt (2 * min p (most - p)) value) [
      | inr near ↦ elim (cases_lt (value % 2) 1) [
        | inl even ↦ subst P (sym (sample_of-even most p value near (omega arith)))
            (omega arith, mapped-up_near most p (p + value / 2) (omega arith) (omega arith) ∙ omega arith)
        | inr odd ↦ subst P (sym (sample_of-odd most p value near (omega arith)))
            (omega arith, mapped-down_near most p (p - (value + 1) / 2) (omega arith) (omega arith) ∙ omega arith)
      ]
      | inl far ↦ elim (cases_lt (most - p) p) [
        | inr low ↦ subst P (sym (sample_of-up most p value far low))
            (small, mapped-up_far most p value (omega arith) (omega arith) ∙ omega arith)
        | inl high ↦ subst P (sym (sample_of-down most p value far high))
            (omega arith, mapped-down_far most p (most - value) (omega arith) (omega arith) ∙ omega arith)
      ]
    ]

-- the mapped value says which sample it is
pub sample_of-mapped_value : (most p x : ℕ) → p ≤ most → x ≤ most → sample_of most p (mapped_value most p x) ≡ x
sample_of-mapped_value most p x in_range fits =
    let P : ℕ → Type 0 = λ v. sample_of most p v ≡ x in
    elim (cases_lt x p) [
      | inr up ↦ elim (cases_lt (min p (most - p)) (x - p)) [
        | inr near ↦ subst P (sym (mapped-up_near most p x up near))
            (sample_of-even most p (2 * (x - p)) (omega arith) (omega arith) ∙ omega arith)
        | inl far ↦ subst P (sym (mapped-up_far most p x up far))
            (sample_of-up most p (min p (most - p) + (x - p)) (omega arith) (omega arith) ∙ omega arith)
      ]
      | inl down ↦ elim (cases_lt (min p (most - p)) (p - x)) [
        | inr near ↦ subst P (sym (mapped-down_near most p x down near))
            (sample_of-odd most p (2 * (p - x) - 1) (omega arith) (omega arith) ∙ omega arith)
        | inl far ↦ subst P (sym (mapped-down_far most p x down far))
            (sample_of-down most p (min p (most - p) + (p - x)) (omega arith) (omega arith) ∙ omega arith)
      ]
    ]

-- the samples of a list of mapped values have these, and are the only ones
pub HaveValues-samples_from : (most p : ℕ) (values : List ℕ) → p ≤ most
    → ((k : ℕ) → k < length values → get_or values k 0 ≤ most) → HaveValues most p values (samples_from most p values)
unfolding samples_from
HaveValues-samples_from most p [] in_range small = tt
HaveValues-samples_from most p (value ∷ values) in_range small =
    let one = sample_of-is most p value in_range (small 0 (omega arith)) in (
      one.0,
      (
        one.1,
        HaveValues-samples_from most (sample_of most p value) values one.0
            (λ k inside. small (suc k) (omega arith)),
      ),
    )

pub HaveValues-one : (most p : ℕ) (values samples : List ℕ) → p ≤ most → HaveValues most p values samples
    → samples ≡ samples_from most p values
unfolding samples_from
HaveValues-one most p [] [] in_range have = refl
HaveValues-one most p [] (sample ∷ samples) in_range have = absurd have
HaveValues-one most p (value ∷ values) [] in_range have = absurd have
HaveValues-one most p (value ∷ values) (sample ∷ samples) in_range have =
    let same : sample ≡ sample_of most p value = sym (sample_of-mapped_value most p sample in_range have.0)
    ∙ ap (sample_of most p) have.1.0 in
    ap (λ s. s ∷ samples) same ∙ ap (λ l. sample_of most p value ∷ l)
    (HaveValues-one most sample values samples have.0 have.1.1 ∙ ap (λ s. samples_from most s values) same)

pub sample_after-in_range : (most p : ℕ) (values : List ℕ) → p ≤ most
    → ((k : ℕ) → k < length values → get_or values k 0 ≤ most) → sample_after most p values ≤ most
unfolding sample_after
sample_after-in_range most p [] in_range small = in_range
sample_after-in_range most p (value ∷ values) in_range small =
    sample_after-in_range most (sample_of most p value) values
    (sample_of-is most p value in_range (small 0 (omega arith))).0 (λ k inside. small (suc k) (omega arith))

pub sample_of-zero : (most p : ℕ) → sample_of most p 0 ≡ p
sample_of-zero most p = sample_of-even most p 0 (omega arith) refl ∙ omega arith

-- ---- the samples of a list

pub samples_from-cons : (most p value : ℕ) (values : List ℕ)
    → samples_from most p (value ∷ values) ≡ sample_of most p value ∷ samples_from most (sample_of most p value) values
unfolding samples_from
samples_from-cons most p value values = refl

pub sample_after-nil : (most p : ℕ) → sample_after most p [] ≡ p
unfolding sample_after
sample_after-nil most p = refl

pub sample_after-cons : (most p value : ℕ) (values : List ℕ)
    → sample_after most p (value ∷ values) ≡ sample_after most (sample_of most p value) values
unfolding sample_after
sample_after-cons most p value values = refl

pub length-samples_from : (most p : ℕ) (values : List ℕ) → length (samples_from most p values) ≡ length values
unfolding samples_from
length-samples_from most p [] = refl
length-samples_from most p (value ∷ values) = ap suc (length-samples_from most (sample_of most p value) values)

pub samples_from-append : (most p : ℕ) (front back : List ℕ)
    → samples_from most p (front ++ back) ≡ samples_from most p front ++ samples_from most
    (sample_after most p front) back
unfolding samples_from sample_after
samples_from-append most p [] back = refl
samples_from-append most p (value ∷ front) back =
    ap (λ l. sample_of most p value ∷ l) (samples_from-append most (sample_of most p value) front back)

pub sample_after-append : (most p : ℕ) (front back : List ℕ)
    → sample_after most p (front ++ back) ≡ sample_after most (sample_after most p front) back
unfolding sample_after
sample_after-append most p [] back = refl
sample_after-append most p (value ∷ front) back = sample_after-append most (sample_of most p value) front back

pub samples_from-zeros : (most p n : ℕ) → samples_from most p (replicate n 0) ≡ replicate n p
unfolding samples_from
samples_from-zeros most p zero = refl
samples_from-zeros most p (suc n) =
    ap (λ s. s ∷ samples_from most s (replicate n 0)) (sample_of-zero most p)
    ∙ ap (λ l. p ∷ l) (samples_from-zeros most p n)

pub sample_after-zeros : (most p n : ℕ) → sample_after most p (replicate n 0) ≡ p
unfolding sample_after
sample_after-zeros most p zero = refl
sample_after-zeros most p (suc n) = ap (λ s. sample_after most s (replicate n 0)) (sample_of-zero most p)
    ∙ sample_after-zeros most p n

-- ---- writing over places

pub places_after-is : (old new written rest : List ℕ) (i : ℕ) → length new ≡ length old → i ≤ length old
    → drop i new ≡ drop i old → written ≡ take i new ++ rest →
    (length rest ≡ 0) ⊎ (i ≡ length old) → new ≡ places_after old written
unfolding places_after
places_after-is old new written rest i same inside kept is (inl none) =
    let all : written ≡ take i new = is ∙ ap (λ l. take i new ++ l) (nil_from_length rest none)
    ∙ append-nil (take i new) in
    let long : length written ≡ i = ap length all ∙ length-take-le i new (omega (arith, same)) in
    let whole : written ++ drop (length written) old ≡ new =
    ap (λ l. l ++ drop (length written) old) all ∙ ap (λ n. take i new ++ drop n old) long
    ∙ ap (λ l. take i new ++ l) (sym kept) ∙ take-append-drop i new in
    sym (ap (take (length old)) whole ∙ take_all (length old) new (omega (arith, same)))
places_after-is old new written rest i same inside kept is (inr full) =
    let all : written ≡ new ++ rest = is ∙ ap (λ l. l ++ rest) (take_all i new (omega (arith, same, full))) in
    sym (ap (λ w. take (length old) (w ++ drop (length written) old)) all
    ∙ ap (take (length old)) (append_assoc new rest (drop (length written) old))
    ∙ take_at new (rest ++ drop (length written) old) (length old) same)
