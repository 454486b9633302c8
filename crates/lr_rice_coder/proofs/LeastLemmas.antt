-- No coding of a line's values is shorter than the shortest string.
use Rattle.std.proofs.Common.{◌≡◌, ℕ, zero, suc, ◌+◌, ◌-◌, ◌*◌, ◌%◌, ◌<◌, ◌≤◌, Bool, true, false, List, []}
use Rattle.std.proofs.Common.{◌∷◌, length, take, drop, replicate, refl, sym, ap, ◌∙◌, subst, arith, inl, inr}
use Rattle.std.proofs.Common.{length-append}
use Rattle.std.specs.Prelude.{◌==◌}
use Rattle.std.proofs.lemmas.Bool.{cases_lt, cases_Bool}
use Rattle.std.proofs.lemmas.List.{drop-drop, drop-take, drop-replicate, take_at, drop_at, take-take, take-replicate}
use Rattle.std.proofs.lemmas.Nat.{mod_below, mul-le}
use Rattle.lr_bits.proofs.ReaderLemmas.{length-number_bits}
use Rattle.lr_rice.specs.CodedLines.{Follow, Form, IsPart, Part, Zeros, Pairs, Halves, Numbers, block_count}
use Rattle.lr_rice.specs.CodedLines.{left_in_segment, option_of}
use Rattle.lr_rice.specs.CodedLines.{site_at, part_string, run_of, short_width, span_of, string_from, values_of}
use Rattle.lr_rice.specs.Samples.{IsSingle, whole_block}
use Rattle.lr_rice.proofs.BlockLemmas.{run_of-pos, whole_block-zeros}
use Rattle.lr_rice.proofs.LineLemmas.{not_first, part-length, places-values, places_from, block_count-pos}
use Rattle.lr_rice_coder.specs.Shortest.{all_zero, shortest_option, places_of_block, block_in, block_values}
use Rattle.lr_rice_coder.specs.Shortest.{line_places, next_part, parts_from, run_number, zero_run}
use Rattle.lr_rice_coder.specs.Laws.{NoCodingIsShorter}
use Rattle.lr_rice_coder.specs.Writing.{ArePlaces}
use Rattle.lr_rice_coder.proofs.CodingLemmas.{fuel-any, next_good, replicate-all_zero}
use Rattle.lr_rice_coder.proofs.CostLemmas.{short-least}
use Rattle.lr_rice_coder.proofs.LawLemmas.{block-even, block-wide, row_places}
use Rattle.lr_rice_coder.proofs.PartLemmas.{next_part-block, next_part-run, parts_from-end}
use Rattle.lr_rice_coder.proofs.PartLemmas.{parts_from-next, run_of-number, span_of-block_in, zero_run-le}
use Rattle.lr_rice_coder.proofs.WriterLemmas.{zero_run-more, zero_run-none, zero_run-stop}
use Rattle.lr_rice_coder.proofs.PartLengths.{extra, length-part, length-run, number-least, number-one, number-single}
use Rattle.lr_rice_coder.proofs.PartLengths.{number-split, single-least, single-long}

-- ---- the best length from a block on

abbrev best : Form → List ℕ → ℕ → ℕ → ℕ
best form all reference at = length (string_from form reference at (parts_from form all (block_count form) at))

best-end : (form : Form) (all : List ℕ) (reference at : ℕ) → block_count form ≤ at → best form all reference at ≡ 0
best-end form all reference at over = ap (λ parts. length (string_from form reference at parts))
    (parts_from-end form all (block_count form) at over)

best-next : (form : Form) (all : List ℕ) (reference at : ℕ) → ArePlaces form all → at < block_count form →
    best form all reference at ≡ length (part_string form.bits (at == 0) reference (next_part form all at))
    + best form all reference (at + span_of (left_in_segment form at) (next_part form all at))
best-next form all reference at are before =
    let good = next_good form all at are before in
    let part = next_part form all at in
    let next = at + span_of (left_in_segment form at) part in
    let n = block_count form - 1 in
    let one : block_count form ≡ suc n = omega arith in
    ap (λ k. length (string_from form reference at (parts_from form all k at))) one
    ∙ ap (λ parts. length (string_from form reference at parts)) (parts_from-next form all n at before)
    ∙ length-append (part_string form.bits (at == 0) reference part)
    (string_from form reference next (parts_from form all n next))
    ∙ ap (λ parts. length (part_string form.bits (at == 0) reference part) + length
    (string_from form reference next parts)) (fuel-any form all n (block_count form) next are
    (omega (arith, good.some)) (omega arith))

-- ---- runs, from a later block on

split-sub : (r k : ℕ) → k ≤ r → r ≡ k + (r - k)
split-sub r k inside = omega arith

left-later : (form : Form) (at r : ℕ) → at < block_count form → r < left_in_segment form at
    → left_in_segment form (at + r) ≡ left_in_segment form at - r
left-later form at r before inside =
    let place : (at + r) % 64 ≡ at % 64 + r = omega arith in
    omega (arith, place)

zero_run-later : (block : ℕ) (all : List ℕ) (n at r : ℕ) → r ≤ zero_run block all n at
    → zero_run block all (n - r) (at + r) ≡ zero_run block all n at - r
zero_run-later block all n at zero inside =
    let same : n - 0 ≡ n = omega arith in
    let place : at + 0 ≡ at = omega arith in
    ap (λ k. zero_run block all k (at + 0)) same ∙ ap (zero_run block all n) place ∙ omega arith
zero_run-later block all zero at (suc r) inside = absurd (omega (arith, zero_run-none block all at))
zero_run-later block all (suc n) at (suc r) inside =
    elim (cases_Bool (all_zero (places_of_block block all at))) [
      | inr isnt ↦ absurd (omega (arith, zero_run-stop block all (suc n) at isnt))
      | inl is ↦
          let step = zero_run-more block all n at is in
          let same : suc n - suc r ≡ n - r = omega arith in
          let place : at + suc r ≡ at + 1 + r = omega arith in
          ap (λ k. zero_run block all k (at + suc r)) same ∙ ap (zero_run block all (n - r)) place
          ∙ zero_run-later block all n (at + 1) r (omega (arith, step)) ∙ omega (arith, step)
    ]

zero_run-least : (block : ℕ) (all : List ℕ) (n at r : ℕ) → r ≤ n
    → ((k : ℕ) → k < r → all_zero (places_of_block block all (at + k)) ≡ true) → r ≤ zero_run block all n at
zero_run-least block all n at zero inside each = omega arith
zero_run-least block all zero at (suc r) inside each = absurd (omega arith)
zero_run-least block all (suc n) at (suc r) inside each =
    let place : at + 0 ≡ at = omega arith in
    let here : all_zero (places_of_block block all at) ≡ true =
    subst (λ (a : ℕ). all_zero (places_of_block block all a) ≡ true) place (each 0 (omega arith)) in
    let later = zero_run-least block all n (at + 1) r (omega arith)
    (λ k below.
    let turn : at + suc k ≡ at + 1 + k = omega arith in
    subst (λ (a : ℕ). all_zero (places_of_block block all a) ≡ true) turn (each (suc k) (omega arith))) in
    omega (arith, zero_run-more block all n at here, later)

block-zero : (block : ℕ) (all : List ℕ) (at r k : ℕ) → k < r
    → take (r * block) (drop (at * block) all) ≡ replicate (r * block) 0
    → all_zero (places_of_block block all (at + k)) ≡ true
block-zero block all at r k below zeros =
    let rest = drop (at * block) all in
    let n = (r - k) * block in
    let room : block ≤ n = omega (arith, mul-le 1 block (r - k) block (omega arith) (omega arith)) in
    let whole : r * block ≡ k * block + n = omega (arith, ap (λ (j : ℕ). j * block) (split-sub r k (omega arith))) in
    let moved : places_of_block block all (at + k) ≡ take block (drop (k * block) rest) =
    ap (λ j. take block (drop j all)) (omega arith) ∙ ap (take block) (sym (drop-drop (k * block) (at * block) all)) in
    let cut : drop (k * block) (take (r * block) rest) ≡ take n (drop (k * block) rest) =
    ap (λ j. drop (k * block) (take j rest)) whole ∙ drop-take (k * block) n rest in
    let zero_block : take block (drop (k * block) rest) ≡ replicate block 0 =
    sym (take-take block n (drop (k * block) rest) room)
    ∙ ap (take block) (sym cut ∙ ap (drop (k * block)) zeros ∙ drop-replicate (k * block) (r * block) 0)
    ∙ ap (λ j. take block (replicate j 0)) (omega (arith, whole)) ∙ take-replicate block n 0 room in
    ap all_zero (moved ∙ zero_block) ∙ replicate-all_zero block

-- ---- each part of another coding, and the best after it, is no shorter

extra-none : (bits : ℕ) (at reference : ℕ) → 1 ≤ at → extra bits (at == 0) reference ≡ 0
extra-none bits at reference behind = ap (λ first. extra bits first reference) (not_first at behind)

best-run : (form : Form) (all : List ℕ) (reference at run : ℕ) → ArePlaces form all → at < block_count form
    → run ≡ zero_run form.block all (left_in_segment form at) at → 1 ≤ run →
    best form all reference at ≡ short_width form.bits + 1 + extra form.bits (at == 0) reference +
    (run_number (left_in_segment form at) run + 1) + best form all reference (at + run)
best-run form all reference at run are before is some =
    let left = left_in_segment form at in
    let number = run_number left run in
    let next : next_part form all at ≡ Zeros number = next_part-run form all at run is some in
    let spans : span_of left (next_part form all at) ≡ run = ap (span_of left) next
    ∙ run_of-number left run some (omega (arith, is, zero_run-le form.block all left at)) in
    best-next form all reference at are before
    ∙ ap (λ part. length (part_string form.bits (at == 0) reference part) + best form all reference
    (at + span_of left (next_part form all at))) next
    ∙ ap (λ s. length (part_string form.bits (at == 0) reference (Zeros number)) + best form all reference (at + s))
    spans
    ∙ ap (λ n. n + best form all reference (at + run)) (length-run form.bits (at == 0) reference number)

-- the rest of a run, from a later block on
best-rest : (form : Form) (all : List ℕ) (reference at r run : ℕ) → ArePlaces form all → at < block_count form
    → run ≡ zero_run form.block all (left_in_segment form at) at → 1 ≤ r → r < run →
    best form all reference (at + r) ≡ short_width form.bits + 1 +
    (run_number (left_in_segment form at - r) (run - r) + 1) + best form all reference (at + run)
best-rest form all reference at r run are before is some less =
    let left = left_in_segment form at in
    let few : run ≤ left = omega (arith, is, zero_run-le form.block all left at) in
    let later : at + r < block_count form = omega (arith, few) in
    let left_is : left_in_segment form (at + r) ≡ left - r = left-later form at r before (omega (arith, few)) in
    let run_is : run - r ≡ zero_run form.block all (left_in_segment form (at + r)) (at + r) =
    omega (
      arith,
      is,
      zero_run-later form.block all left at r (omega (arith, is)),
      ap (λ n. zero_run form.block all n (at + r)) left_is,
    ) in
    let place : at + r + (run - r) ≡ at + run = omega arith in
    best-run form all reference (at + r) (run - r) are later run_is (omega arith)
    ∙ ap (λ e. short_width form.bits + 1 + e + (run_number (left_in_segment form (at + r)) (run - r) + 1)
    + best form all reference (at + r + (run - r))) (extra-none form.bits (at + r) reference (omega arith))
    ∙ ap (λ n. short_width form.bits + 1 + 0 + (run_number n (run - r) + 1) + best form all reference
    (at + r + (run - r))) left_is
    ∙ ap (λ a. short_width form.bits + 1 + 0 + (run_number (left - r) (run - r) + 1) + best form all reference a)
    place ∙ omega arith

key_run : (form : Form) (all : List ℕ) (reference at m : ℕ) → ArePlaces form all → at < block_count form
    → run_of (left_in_segment form at) m ≤ left_in_segment form at →
    take (run_of (left_in_segment form at) m * form.block) (drop (at * form.block) all)
    ≡ replicate (run_of (left_in_segment form at) m * form.block) 0 → 1 ≤ left_in_segment form at →
    best form all reference at ≤ length (part_string form.bits (at == 0) reference (Zeros m))
    + best form all reference (at + run_of (left_in_segment form at) m)
key_run form all reference at m are before inside zeros some_left =
    let left = left_in_segment form at in
    let r = run_of left m in
    let run = zero_run form.block all left at in
    let some : 1 ≤ r = run_of-pos left m some_left in
    let least : r ≤ run = zero_run-least form.block all left at r inside
    (λ k below. block-zero form.block all at r k below zeros) in
    let mine = best-run form all reference at run are before refl (omega arith) in
    let other = length-run form.bits (at == 0) reference m in
    elim (cases_lt r run) [
      | inl less ↦
          let rest = best-rest form all reference at r run are before refl some less in
          omega (
            arith,
            mine,
            other,
            rest,
            number-split left m run some less (zero_run-le form.block all left at),
            short-least form.bits,
          )
      | inr same ↦
          let whole : r ≡ run = omega arith in
          let number = number-least left m run (omega arith) (zero_run-le form.block all left at) whole in
          omega (arith, mine, other, number, ap (λ (n : ℕ). best form all reference (at + n)) whole)
    ]

unwhole : (first : Bool) (values here : List ℕ) → whole_block first values ≡ here → values ≡ block_values first here
unwhole true values here same = ap (drop 1) same
unwhole false values here same = same

key_single : (form : Form) (all : List ℕ) (reference at : ℕ) (part : Part) → ArePlaces form all
    → at < block_count form → 8 ≤ form.block → form.block % 2 ≡ 0 → 5 ≤ form.bits → 1 ≤ left_in_segment form at →
    IsSingle (option_of part) → IsPart (site_at form at) part →
    whole_block (at == 0) (values_of (site_at form at) part)
    ≡ places_of_block form.block all at →
    best form all reference at ≤ length (part_string form.bits (at == 0) reference part) + best form all reference
    (at + 1)
key_single form all reference at part are before wide even deep some_left single is same =
    let left = left_in_segment form at in
    let first = at == 0 in
    let here = places_of_block form.block all at in
    let run = zero_run form.block all left at in
    let long = single-long (site_at form at) reference part wide even deep single is in
    elim (cases_lt run 1) [
      | inl none ↦
          let next = next_part-block form all at (omega arith) in
          let option = shortest_option form.bits first here in
          let spans : span_of left (next_part form all at) ≡ 1 = ap (span_of left) next
          ∙ span_of-block_in left option (block_values first here) in
          let mine : best form all reference at ≡ length
          (part_string form.bits first reference (block_in option (block_values first here)))
          + best form all reference (at + 1) =
          best-next form all reference at are before
          ∙ ap (λ p. length (part_string form.bits first reference p) + best form all reference
          (at + span_of left (next_part form all at))) next
          ∙ ap (λ s. length (part_string form.bits first reference (block_in option (block_values first here)))
          + best form all reference (at + s)) spans in
          omega (
            arith,
            mine,
            single-least (site_at form at) reference here part single is
                (unwhole first (values_of (site_at form at) part) here same),
          )
      | inr some ↦
          let mine = best-run form all reference at run are before refl some in
          elim (cases_lt 1 run) [
            | inl more ↦
                let rest = best-rest form all reference at 1 run are before refl (omega arith) more in
                omega (arith, mine, rest, long, number-single left run more (zero_run-le form.block all left at))
            | inr last ↦
                let one : run ≡ 1 = omega arith in
                omega (
                  arith,
                  mine,
                  long,
                  ap (run_number left) one,
                  number-one left some_left,
                  ap (λ (n : ℕ). best form all reference (at + n)) one,
                )
          ]
    ]

one_block : (block : ℕ) (all : List ℕ) (at : ℕ)
    → take (1 * block) (drop (at * block) all) ≡ places_of_block block all at
one_block block all at =
    let one : 1 * block ≡ block = omega arith in
    ap (λ (n : ℕ). take n (drop (at * block) all)) one

key : (form : Form) (all : List ℕ) (reference at : ℕ) (part : Part) → ArePlaces form all → at < block_count form
    → 8 ≤ form.block → form.block % 2 ≡ 0 → 5 ≤ form.bits →
    IsPart (site_at form at) part →
    whole_block (at == 0) (values_of (site_at form at) part)
    ≡ take (span_of (left_in_segment form at) part * form.block) (drop (at * form.block) all) →
    best form all reference at ≤ length (part_string form.bits (at == 0) reference part) + best form all reference
    (at + span_of (left_in_segment form at) part)
key form all reference at (Zeros m) are before wide even deep is same =
    let left = left_in_segment form at in
    let some : 1 ≤ left = omega (arith, mod_below at 64 (omega arith)) in
    let r = run_of left m in
    let zeros : whole_block (at == 0) (values_of (site_at form at) (Zeros m)) ≡ replicate (r * form.block) 0 =
    whole_block-zeros (at == 0) (r * form.block) (omega (
      arith,
      mul-le 1 1 r form.block (run_of-pos left m some) (omega arith),
    )) in
    key_run form all reference at m are before is (sym same ∙ zeros) some
key form all reference at (Pairs lead values) are before wide even deep is same =
    key_single form all reference at (Pairs lead values) are before wide even deep
    (omega (arith, mod_below at 64 (omega arith))) tt is (same ∙ one_block form.block all at)
key form all reference at (Halves k values) are before wide even deep is same =
    key_single form all reference at (Halves k values) are before wide even deep
    (omega (arith, mod_below at 64 (omega arith))) tt is (same ∙ one_block form.block all at)
key form all reference at (Numbers values) are before wide even deep is same =
    key_single form all reference at (Numbers values) are before wide even deep
    (omega (arith, mod_below at 64 (omega arith))) tt is (same ∙ one_block form.block all at)

best-least : (form : Form) (all : List ℕ) (reference at : ℕ) (parts : List Part) → ArePlaces form all → 8 ≤ form.block
    → form.block % 2 ≡ 0 → 5 ≤ form.bits →
    Follow form at parts (block_count form) → places_from form at parts ≡ drop (at * form.block) all
    → best form all reference at ≤ length (string_from form reference at parts)
best-least form all reference at [] are wide even deep follow same =
    omega (arith, best-end form all reference at (omega (arith, follow)))
best-least form all reference at (part ∷ parts) are wide even deep follow same =
    let left = left_in_segment form at in
    let span = span_of left part in
    let values = whole_block (at == 0) (values_of (site_at form at) part) in
    let later = places_from form (at + span) parts in
    let rest = drop (at * form.block) all in
    let size : length values ≡ span * form.block = part-length form at part (omega (arith, wide)) follow.0 follow.1.0 in
    let front : values ≡ take (span * form.block) rest = sym (take_at values later (span * form.block) size)
    ∙ ap (take (span * form.block)) same in
    let back : later ≡ drop ((at + span) * form.block) all =
    sym (drop_at values later (span * form.block) size) ∙ ap (drop (span * form.block)) same
    ∙ drop-drop (span * form.block) (at * form.block) all ∙ ap (λ k. drop k all) (omega arith) in
    omega (
      arith,
      key form all reference at part are follow.0 wide even deep follow.1.0 front,
      best-least form all reference (at + span) parts are wide even deep follow.1.1 back,
      length-append (part_string form.bits (at == 0) reference part) (string_from form reference (at + span) parts),
    )

-- a string's length doesn't depend on the number in the place of the reference
length-part_reference : (bits : ℕ) (first : Bool) (one other : ℕ) (part : Part)
    → length (part_string bits first one part) ≡ length (part_string bits first other part)
length-part_reference bits true one other part =
    omega (
      arith,
      length-part bits true one part,
      length-part bits true other part,
      length-number_bits bits one,
      length-number_bits bits other,
    )
length-part_reference bits false one other part = refl

length-string_reference : (form : Form) (one other at : ℕ) (parts : List Part)
    → length (string_from form one at parts) ≡ length (string_from form other at parts)
length-string_reference form one other at [] = refl
length-string_reference form one other at (part ∷ parts) =
    let next = at + span_of (left_in_segment form at) part in
    omega (
      arith,
      length-append (part_string form.bits (at == 0) one part) (string_from form one next parts),
      length-append (part_string form.bits (at == 0) other part) (string_from form other next parts),
      length-part_reference form.bits (at == 0) one other part,
      length-string_reference form one other next parts,
    )

pub no_coding_is_shorter : NoCodingIsShorter
no_coding_is_shorter form reference samples row another other codes =
    let all = line_places form (reference ∷ samples) in
    let are = row_places form reference samples row in
    let wide = block-wide form row.codable in
    let some = block_count-pos form (omega (arith, wide)) (omega (arith, row.columns)) in
    let none : 0 * form.block ≡ 0 = omega arith in
    let same : places_from form 0 codes.parts ≡ drop (0 * form.block) all =
    places-values form codes.parts (block_count form) some codes.follow ∙ ap (λ l. 0 ∷ l) (sym codes.are_values)
    ∙ ap (λ (k : ℕ). drop k all) (sym none) in
    omega (
      arith,
      best-least form all reference 0 codes.parts are wide (block-even form row.codable) row.codable.least_bits
          codes.follow same,
      length-string_reference form reference another 0 codes.parts,
      ap length codes.is_string,
    )
