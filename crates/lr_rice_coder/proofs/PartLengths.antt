-- The numbers of runs, and how long the parts of a line are.
use Rattle.std.proofs.Common.{◌≡◌, ℕ, ◌+◌, ◌-◌, ◌*◌, ◌/◌, ◌%◌, ◌^◌, ◌<◌, ◌≤◌, Bool, true, false, List, []}
use Rattle.std.proofs.Common.{◌∷◌, ◌++◌, length, sym, ap, ◌∙◌, arith, inl, inr}
use Rattle.std.proofs.Common.{length-append}
use Rattle.std.specs.Prelude.{if◌then◌else◌}
use Rattle.std.specs.List.{flat_map}
use Rattle.std.proofs.lemmas.Bool.{cases_lt}
use Rattle.std.proofs.lemmas.Bool.Decides.{nat_tests}
use Rattle.std.proofs.lemmas.Nat.{mul-le}
use Rattle.lr_bits.specs.Bits.{number_bits, zeros_and_one}
use Rattle.lr_bits.proofs.ReaderLemmas.{length-number_bits}
use Rattle.lr_rice.specs.declared.choice.BlockOption.TheVariants.{SecondExtension, Split, Uncoded}
use Rattle.lr_rice.specs.CodedLines.{AreValues, BlockSite, IsPart, Part, Zeros, Pairs, Halves, Numbers}
use Rattle.lr_rice.specs.CodedLines.{body_string, identifier, option_of, pair_number, pairs_string}
use Rattle.lr_rice.specs.CodedLines.{part_string, places, run_of, short_width, values_of}
use Rattle.lr_rice.specs.Samples.{IsSingle}
use Rattle.lr_rice.proofs.ItemLemmas.{length-flat_map_numbers}
use Rattle.lr_rice_coder.specs.Shortest.{shortest_option, block_in, block_values, cost_of}
use Rattle.lr_rice_coder.specs.Shortest.{run_number}
use Rattle.lr_rice_coder.proofs.OptionLemmas.{shortest_option-both, shortest_option-least}
use Rattle.lr_rice_coder.proofs.CostLemmas.{length-zeros_and_one}
use Rattle.lr_rice_coder.proofs.PartLemmas.{option_of-block_in}

-- ---- numbers of runs

pub number-least : (left m run : ℕ) → 1 ≤ run → run ≤ left → run_of left m ≡ run → run_number left run ≤ m
number-least left m run some inside is = grind (arith, nat_tests)

run-short : (left m : ℕ) → run_of left m < left → run_of left m ≤ m + 1
run-short left m less = grind (arith, nat_tests)

number-most : (left run : ℕ) → run_number left run ≤ run
number-most left run = grind (arith, nat_tests)

number-end : (left : ℕ) → run_number left left ≤ 4
number-end left = grind (arith, nat_tests)

number-inside : (left run : ℕ) → run < left → run ≤ run_number left run + 1
number-inside left run less = grind (arith, nat_tests)

pub number-split : (left m run : ℕ) → 1 ≤ run_of left m → run_of left m < run → run ≤ left
    → run_number left run ≤ m + run_number (left - run_of left m) (run - run_of left m) + 5
number-split left m run some less inside =
    let first = run_of left m in
    let short = run-short left m (omega arith) in
    elim (cases_lt run left) [
      | inl before ↦ omega (
        arith,
        number-most left run,
        number-inside (left - first) (run - first) (omega arith),
        short,
      )
      | inr end ↦
          let same : run ≡ left = omega arith in
          omega (arith, ap (run_number left) same, number-end left)
    ]

pub number-single : (left run : ℕ) → 2 ≤ run → run ≤ left → run_number left run ≤ run_number (left - 1) (run - 1) + 2
number-single left run some inside = grind (arith, nat_tests)

pub number-one : (left : ℕ) → 1 ≤ left → run_number left 1 ≡ 0
number-one left some = grind (arith, nat_tests)

-- ---- lengths of parts

abbrev pub extra : ℕ → Bool → ℕ → ℕ
extra bits first reference = length (if first then number_bits bits reference else [])

pub length-part : (bits : ℕ) (first : Bool) (reference : ℕ) (part : Part) →
    length (part_string bits first reference part)
    ≡ length (identifier bits (option_of part)) + extra bits first reference + length (body_string bits first part)
length-part bits first reference part =
    let name = identifier bits (option_of part) in
    let number : List ℕ = if first then number_bits bits reference else [] in
    length-append (name ++ number) (body_string bits first part)
    ∙ ap (λ n. n + length (body_string bits first part)) (length-append name number)

pub length-run : (bits : ℕ) (first : Bool) (reference m : ℕ)
    → length (part_string bits first reference (Zeros m)) ≡ short_width bits + 1 + extra bits first reference + (m + 1)
length-run bits first reference m =
    omega (
      arith,
      length-part bits first reference (Zeros m),
      length-number_bits (short_width bits + 1) 0,
      length-zeros_and_one m,
    )

pairs-long : (values : List ℕ) → length values % 2 ≡ 0 → length values ≤ 2 * length (pairs_string values)
pairs-long [] even = omega arith
pairs-long (a ∷ []) even = absurd (omega arith)
pairs-long (a ∷ b ∷ values) even =
    omega (
      arith,
      length-append (zeros_and_one (pair_number a b)) (pairs_string values),
      length-zeros_and_one (pair_number a b),
      pairs-long values (omega arith),
    )

sequences-long : (k : ℕ) (values : List ℕ) → length values ≤ length (flat_map (λ v. zeros_and_one (v / 2 ^ k)) values)
sequences-long k [] = omega arith
sequences-long k (value ∷ values) =
    omega (
      arith,
      length-append (zeros_and_one (value / 2 ^ k)) (flat_map (λ v. zeros_and_one (v / 2 ^ k)) values),
      length-zeros_and_one (value / 2 ^ k),
      sequences-long k values,
    )

behind_lead : (first : Bool) (block : ℕ) (values : List ℕ) → length values ≡ places block first 1
    → block ≤ length values + 1
behind_lead true block values size = omega (arith, size)
behind_lead false block values size = omega (arith, size)

single-pairs : (site : BlockSite) (first : Bool) (reference lead : ℕ) (values : List ℕ) → 8 ≤ site.block
    → site.block % 2 ≡ 0 → AreValues (record site { first = first }) values →
    short_width site.bits + extra site.bits first reference + 4
    ≤ length (part_string site.bits first reference (Pairs lead values))
single-pairs site true reference lead values wide even are =
    omega (
      arith,
      length-part site.bits true reference (Pairs lead values),
      length-number_bits (short_width site.bits + 1) 1,
      pairs-long (lead ∷ values) (omega (arith, are.whole)),
      are.whole,
    )
single-pairs site false reference lead values wide even are =
    omega (
      arith,
      length-part site.bits false reference (Pairs lead values),
      length-number_bits (short_width site.bits + 1) 1,
      pairs-long values (omega (arith, are.whole)),
      are.whole,
    )

-- a block that isn't part of a zero block has four bits or more after its head
pub single-long : (site : BlockSite) (reference : ℕ) (part : Part) → 8 ≤ site.block → site.block % 2 ≡ 0
    → 5 ≤ site.bits → IsSingle (option_of part) → IsPart site part →
    short_width site.bits + extra site.bits site.first reference + 4
    ≤ length (part_string site.bits site.first reference part)
single-long site reference (Zeros m) wide even deep single is = absurd single
single-long site reference (Pairs lead values) wide even deep single is =
    single-pairs site site.first reference lead values wide even is
single-long site reference (Halves k values) wide even deep single is =
    omega (
      arith,
      length-part site.bits site.first reference (Halves k values),
      length-number_bits (short_width site.bits) (k + 1),
      sequences-long k values,
      behind_lead site.first site.block values is.1.whole,
      length-append (flat_map (λ v. zeros_and_one (v / 2 ^ k)) values) (flat_map (number_bits k) values),
    )
single-long site reference (Numbers values) wide even deep single is =
    omega (
      arith,
      length-part site.bits site.first reference (Numbers values),
      length-number_bits (short_width site.bits) (2 ^ short_width site.bits - 1),
      length-flat_map_numbers site.bits values,
      behind_lead site.first site.block values is.whole,
      mul-le 7 1 (length values) site.bits (omega (arith, behind_lead site.first site.block values is.whole))
          (omega arith),
    )

-- another number in the place of the reference makes no pair shorter
pair-least : (lead b : ℕ) → pair_number 0 b ≤ pair_number lead b
pair-least lead b = omega (arith, mul-le b (b + 1) (lead + b) (lead + b + 1) (omega arith) (omega arith))

lead-least : (lead : ℕ) (values : List ℕ) → length (pairs_string (0 ∷ values)) ≤ length (pairs_string (lead ∷ values))
lead-least lead [] = omega arith
lead-least lead (b ∷ values) =
    omega (
      arith,
      length-append (zeros_and_one (pair_number 0 b)) (pairs_string values),
      length-append (zeros_and_one (pair_number lead b)) (pairs_string values),
      length-zeros_and_one (pair_number 0 b),
      length-zeros_and_one (pair_number lead b),
      pair-least lead b,
    )

other_pairs : (bits : ℕ) (first : Bool) (reference : ℕ) (here : List ℕ) (lead : ℕ) (values : List ℕ)
    → values ≡ block_values first here
    → cost_of bits first here (shortest_option bits first here) + extra bits first reference
    ≤ length (part_string bits first reference (Pairs lead values))
other_pairs bits true reference here lead values same =
    let least = shortest_option-least bits true here SecondExtension tt tt in
    let body : length (body_string bits true (block_in SecondExtension (block_values true here)))
    ≡ length (pairs_string (0 ∷ values)) = ap (λ l. length (pairs_string (0 ∷ l))) (sym same) in
    omega (arith, length-part bits true reference (Pairs lead values), least, body, lead-least lead values)
other_pairs bits false reference here lead values same =
    let least = shortest_option-least bits false here SecondExtension tt tt in
    let body : length (body_string bits false (block_in SecondExtension (block_values false here)))
    ≡ length (pairs_string values) = ap (λ l. length (pairs_string l)) (sym same) in
    omega (arith, length-part bits false reference (Pairs lead values), least, body)

other_cost : (site : BlockSite) (reference : ℕ) (here : List ℕ) (part : Part) → IsSingle (option_of part)
    → IsPart site part → values_of site part ≡ block_values site.first here
    → cost_of site.bits site.first here (shortest_option site.bits site.first here)
    + extra site.bits site.first reference ≤ length (part_string site.bits site.first reference part)
other_cost site reference here (Zeros m) single is same = absurd single
other_cost site reference here (Pairs lead values) single is same =
    other_pairs site.bits site.first reference here lead values same
other_cost site reference here (Halves k values) single is same =
    let least = shortest_option-least site.bits site.first here (Split k) tt is.0 in
    let body : length (body_string site.bits site.first (Halves k (block_values site.first here)))
    ≡ length (body_string site.bits site.first (Halves k values)) =
    ap (λ l. length (body_string site.bits site.first (Halves k l))) (sym same) in
    omega (arith, length-part site.bits site.first reference (Halves k values), least, body)
other_cost site reference here (Numbers values) single is same =
    let least = shortest_option-least site.bits site.first here Uncoded tt tt in
    let body : length (body_string site.bits site.first (Numbers (block_values site.first here)))
    ≡ length (body_string site.bits site.first (Numbers values)) =
    ap (λ l. length (body_string site.bits site.first (Numbers l))) (sym same) in
    omega (arith, length-part site.bits site.first reference (Numbers values), least, body)

-- a block in its best option is no longer than in another one
pub single-least : (site : BlockSite) (reference : ℕ) (here : List ℕ) (part : Part) → IsSingle (option_of part)
    → IsPart site part → values_of site part ≡ block_values site.first here →
    length (part_string site.bits site.first reference
    (block_in (shortest_option site.bits site.first here) (block_values site.first here)))
    ≤ length (part_string site.bits site.first reference part)
single-least site reference here part single is same =
    let best = shortest_option site.bits site.first here in
    let both = shortest_option-both site.bits site.first here in
    let mine = block_in best (block_values site.first here) in
    let part_is : length (part_string site.bits site.first reference mine)
    ≡ cost_of site.bits site.first here best + extra site.bits site.first reference =
    length-part site.bits site.first reference mine
    ∙ ap (λ o. length (identifier site.bits o) + extra site.bits site.first reference + length
    (body_string site.bits site.first mine))
    (option_of-block_in best (block_values site.first here) both.0) ∙ omega arith in
    omega (arith, part_is, other_cost site reference here part single is same)
