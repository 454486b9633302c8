-- The parts of the shortest coding, and the places of a line.
use Rattle.std.proofs.Common.{◌≡◌, ℕ, zero, suc, ◌+◌, ◌-◌, ◌*◌, ◌<◌, ◌≤◌, min, Bool, true, false, List, [], ◌∷◌}
use Rattle.std.proofs.Common.{length, get_or, take, drop, replicate, refl, sym, ap, ◌∙◌, subst, arith, inl, inr}
use Rattle.std.proofs.Common.{length-append, All}
use Rattle.std.specs.Prelude.{nat_lt, ◌==◌, if◌then◌else◌}
use Rattle.std.proofs.lemmas.Bool.{cases_lt, le-leb, lt-leb}
use Rattle.std.proofs.lemmas.Bool.Decides.{nat_tests}
use Rattle.std.proofs.lemmas.List.{get_or_append_left, get_or-append_right, get_or-drop, get_or-replicate, get_or-take}
use Rattle.std.proofs.lemmas.List.{get_or_default, get_or_past, length-replicate, length-take}
use Rattle.lr_rice.specs.declared.choice.BlockOption.{BlockOption}
use Rattle.lr_rice.specs.declared.choice.BlockOption.TheVariants.{ZeroBlock, SecondExtension, Split, Uncoded}
use Rattle.lr_rice.specs.CodedLines.{Form, Zeros, block_count, greatest, left_in_segment, mapped_value, option_of}
use Rattle.lr_rice.specs.CodedLines.{run_of, span_of, string_from}
use Rattle.std.proofs.lemmas.Nat.{div-add-mod'}
use Rattle.lr_rice.specs.Samples.{IsSingle}
use Rattle.lr_rice.proofs.LineLemmas.{blocks-cover}
use Rattle.lr_rice_coder.specs.Shortest.{all_zero, shortest_option, places_of_block, block_in}
use Rattle.lr_rice_coder.specs.Shortest.{block_values, line_places}
use Rattle.lr_rice_coder.specs.Shortest.{mapped_from, next_part, parts_from, places_past, run_number, shortest_string}
use Rattle.lr_rice_coder.specs.Shortest.{zero_run}

pub slice : (block at : ℕ) (places : List ℕ) → take (at * block + block - at * block) (drop (at * block) places)
    ≡ places_of_block block places at
slice block at places =
    let size : at * block + block - at * block ≡ block = omega arith in
    ap (λ n. take n (drop (at * block) places)) size

-- ---- parts

zero_test : (run : ℕ) → 1 ≤ run → (run == 0) ≡ false
zero_test run some = grind (arith, nat_tests)

pub next_part-run : (form : Form) (places : List ℕ) (at run : ℕ)
    → run ≡ zero_run form.block places (left_in_segment form at) at → 1 ≤ run →
    next_part form places at ≡ Zeros (run_number (left_in_segment form at) run)
unfolding next_part
next_part-run form places at run is some =
    let here = places_of_block form.block places at in
    let single = block_in (shortest_option form.bits (at == 0) here) (block_values (at == 0) here) in
    ap (λ r. if r == 0 then single else Zeros (run_number (left_in_segment form at) r)) (sym is)
    ∙ ap (λ b. if b then single else Zeros (run_number (left_in_segment form at) run)) (zero_test run some)

pub next_part-block : (form : Form) (places : List ℕ) (at : ℕ)
    → zero_run form.block places (left_in_segment form at) at ≡ 0 →
    next_part form places at ≡ block_in (shortest_option form.bits (at == 0) (places_of_block form.block places at))
    (block_values (at == 0) (places_of_block form.block places at))
unfolding next_part
next_part-block form places at none =
    let here = places_of_block form.block places at in
    let single = block_in (shortest_option form.bits (at == 0) here) (block_values (at == 0) here) in
    ap (λ r. if r == 0 then single else Zeros (run_number (left_in_segment form at) r)) none

pub zero_run-le : (block : ℕ) (places : List ℕ) (n at : ℕ) → zero_run block places n at ≤ n
unfolding zero_run
zero_run-le block places zero at = omega arith
zero_run-le block places (suc n) at = cond_le (all_zero (places_of_block block places at))
    (zero_run block places n (at + 1)) n (zero_run-le block places n (at + 1))
  where
    cond_le : (b : Bool) (run n : ℕ) → run ≤ n → (if b then suc run else 0) ≤ suc n
    cond_le true run n less = omega arith
    cond_le false run n less = omega arith

-- the number of a run stands for it
pub run_of-number : (left run : ℕ) → 1 ≤ run → run ≤ left → run_of left (run_number left run) ≡ run
run_of-number left run some inside = grind (arith, nat_tests)

pub option_of-block_in : (option : BlockOption) (values : List ℕ) → IsSingle option
    → option_of (block_in option values) ≡ option
option_of-block_in ZeroBlock values single = absurd single
option_of-block_in SecondExtension values single = refl
option_of-block_in (Split k) values single = refl
option_of-block_in Uncoded values single = refl

pub span_of-block_in : (left : ℕ) (option : BlockOption) (values : List ℕ) → span_of left (block_in option values) ≡ 1
span_of-block_in left ZeroBlock values = refl
span_of-block_in left SecondExtension values = refl
span_of-block_in left (Split k) values = refl
span_of-block_in left Uncoded values = refl

pub parts_from-end : (form : Form) (places : List ℕ) (n at : ℕ) → block_count form ≤ at
    → parts_from form places n at ≡ []
unfolding parts_from
parts_from-end form places zero at end = refl
parts_from-end form places (suc n) at end =
    let isnt : nat_lt at (block_count form) ≡ false = lt-leb (suc at) (block_count form) (omega arith) in
    ap (λ b. if b then next_part form places at ∷ parts_from form places n
    (at + span_of (left_in_segment form at) (next_part form places at)) else []) isnt

pub parts_from-next : (form : Form) (places : List ℕ) (n at : ℕ) → at < block_count form →
    parts_from form places (suc n) at ≡ next_part form places at ∷ parts_from form places n
    (at + span_of (left_in_segment form at) (next_part form places at))
unfolding parts_from
parts_from-next form places n at inside =
    let is : nat_lt at (block_count form) ≡ true = le-leb (suc at) (block_count form) inside in
    ap (λ b. if b then next_part form places at ∷ parts_from form places n
    (at + span_of (left_in_segment form at) (next_part form places at)) else []) is

-- ---- the places of a line

pub length-mapped_from : (most p : ℕ) (samples : List ℕ) → length (mapped_from most p samples) ≡ length samples
length-mapped_from most p [] = refl
length-mapped_from most p (sample ∷ samples) = ap suc (length-mapped_from most sample samples)

pub length-line_places : (form : Form) (samples : List ℕ) → 1 ≤ length samples → form.columns ≡ length samples
    → 1 ≤ form.block → length (line_places form samples) ≡ block_count form * form.block
length-line_places form [] some columns wide = absurd (omega arith)
length-line_places form (reference ∷ samples) some columns wide =
    let most = greatest form.bits in
    let zeros : List ℕ = replicate (places_past form) 0 in
    omega (
      arith,
      length-append (0 ∷ mapped_from most reference samples) zeros,
      length-mapped_from most reference samples,
      length-replicate {A = ℕ} (places_past form) 0,
      blocks-cover form wide,
      columns,
    )

pub first_place : (form : Form) (samples : List ℕ) → get_or (line_places form samples) 0 0 ≡ 0
first_place form [] = refl
first_place form (reference ∷ samples) = refl

mapped_value-small : (most p sample : ℕ) → p ≤ most → sample ≤ most → mapped_value most p sample ≤ most
mapped_value-small most p sample fp fs =
    elim (cases_lt sample p) [
      | inr up ↦ elim (cases_lt (min p (most - p)) (sample - p)) [
        | inr near ↦ grind (arith, nat_tests)
        | inl far ↦ grind (arith, nat_tests)
      ]
      | inl down ↦ elim (cases_lt (min p (most - p)) (p - sample)) [
        | inr near ↦ grind (arith, nat_tests)
        | inl far ↦ grind (arith, nat_tests)
      ]
    ]

mapped_from-small : (most p : ℕ) (samples : List ℕ) → p ≤ most
    → ((k : ℕ) → k < length samples → get_or samples k 0 ≤ most) → (k : ℕ) → k < length (mapped_from most p samples)
    → get_or (mapped_from most p samples) k 0 ≤ most
mapped_from-small most p [] in_range small k inside = absurd (omega arith)
mapped_from-small most p (sample ∷ samples) in_range small zero inside =
    mapped_value-small most p sample in_range (small 0 (omega arith))
mapped_from-small most p (sample ∷ samples) in_range small (suc k) inside =
    mapped_from-small most sample samples (small 0 (omega arith)) (λ j below. small (suc j) (omega arith)) k
    (omega arith)

front_small : (most : ℕ) (values : List ℕ) (k : ℕ) → ((j : ℕ) → j < length values → get_or values j 0 ≤ most)
    → k < length (0 ∷ values) → get_or (0 ∷ values) k 0 ≤ most
front_small most values zero small inside = omega arith
front_small most values (suc k) small inside = small k (omega arith)

pub line_places-small : (form : Form) (samples : List ℕ)
    → ((k : ℕ) → k < length samples → get_or samples k 0 ≤ greatest form.bits) →
    (k : ℕ) → get_or (line_places form samples) k 0 ≤ greatest form.bits
line_places-small form [] small k = omega (arith, get_or_past {X = ℕ} [] k 0 (omega arith))
line_places-small form (reference ∷ samples) small k =
    let most = greatest form.bits in
    let front = 0 ∷ mapped_from most reference samples in
    let n = places_past form in
    let zeros : List ℕ = replicate n 0 in
    elim (cases_lt k (length front)) [
      | inl early ↦ subst (λ v. v ≤ most) (sym (get_or_append_left front zeros 0 k early))
          (front_small most (mapped_from most reference samples) k
          (mapped_from-small most reference samples (small 0 (omega arith)) (λ i below. small (suc i) (omega arith)))
          early)
      | inr late ↦ subst (λ v. v ≤ most) (sym (get_or-append_right front zeros (length front) k 0 refl late))
          (elim (cases_lt (k - length front) n) [
            | inl there ↦ omega (arith, get_or-replicate {A = ℕ} n (k - length front) 0 0 there)
            | inr past ↦ omega (
              arith,
              get_or_past zeros (k - length front) 0
                  (omega (arith, length-replicate {A = ℕ} n 0)),
            )
          ])
    ]

pub shortest_string-is : (form : Form) (samples : List ℕ) → 1 ≤ length samples →
    shortest_string form samples ≡ string_from form (get_or samples 0 0) 0
    (parts_from form (line_places form samples) (block_count form) 0)
shortest_string-is form [] some = absurd (omega arith)
shortest_string-is form (reference ∷ samples) some = refl

pub count-size : (form : Form) → block_count form * form.block ≤ form.columns + form.block
count-size form = omega (arith, div-add-mod' (form.columns + form.block - 1) form.block)

-- values that are cut out of small ones
pub cut-small : (values : List ℕ) (most n m : ℕ) → ((k : ℕ) → get_or values k 0 ≤ most)
    → All (λ v. v ≤ most) (take n (drop m values))
cut-small values most n m small k d inside =
    let before : k < n = omega (arith, length-take n (drop m values)) in
    subst (λ v. v ≤ most) (sym (get_or-take n (drop m values) k 0 before ∙ get_or-drop m values k 0)
    ∙ get_or_default (take n (drop m values)) k 0 d inside) (small (m + k))
