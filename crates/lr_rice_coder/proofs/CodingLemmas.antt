-- The parts of the shortest coding are parts of the line, and stand for its values.
use Rattle.std.proofs.Common.{◌≡◌, ℕ, zero, suc, ◌+◌, ◌-◌, ◌*◌, ◌<◌, ◌≤◌, Bool, true, false, List, [], ◌∷◌, ◌++◌}
use Rattle.std.proofs.Common.{length, get_or, take, drop, replicate, All, refl, sym, ap, ◌∙◌, subst, arith, inl, inr}
use Rattle.std.proofs.Common.{length-drop}
use Rattle.std.specs.Prelude.{◌==◌}
use Rattle.std.proofs.lemmas.Bool.{cases_lt, cases_Bool}
use Rattle.std.proofs.lemmas.List.{drop-drop, drop_all, get_or_default, get_or-drop, get_or-take, length-take-le}
use Rattle.std.proofs.lemmas.List.{replicate-append-replicate, take-append-drop}
use Rattle.std.proofs.lemmas.Nat.{mod_below, mul-le}
use Rattle.lr_rice.specs.declared.choice.BlockOption.{BlockOption}
use Rattle.lr_rice.specs.declared.choice.BlockOption.TheVariants.{ZeroBlock, SecondExtension, Split, Uncoded}
use Rattle.lr_rice.specs.CodedLines.{AreValues, BlockSite, Follow, Form, IsOption, IsPart, Part, Zeros, block_count}
use Rattle.lr_rice.specs.CodedLines.{greatest, site_at}
use Rattle.lr_rice.specs.CodedLines.{left_in_segment, part_string, places, run_of, span_of, string_from, values_of}
use Rattle.lr_rice.specs.Samples.{IsSingle, whole_block}
use Rattle.lr_rice.proofs.BlockLemmas.{whole_block-zeros}
use Rattle.lr_rice.proofs.LineLemmas.{not_first, places_from}
use Rattle.lr_rice_coder.specs.Shortest.{all_zero, shortest_option, places_of_block, block_in, block_values, next_part}
use Rattle.lr_rice_coder.specs.Shortest.{parts_from, run_number, zero_run}
use Rattle.lr_rice_coder.specs.Writing.{ArePlaces}
use Rattle.lr_rice_coder.proofs.CostLemmas.{lead_back}
use Rattle.lr_rice_coder.proofs.OptionLemmas.{shortest_option-both}
use Rattle.lr_rice_coder.proofs.PartLemmas.{next_part-block, next_part-run, parts_from-end, parts_from-next}
use Rattle.lr_rice_coder.proofs.PartLemmas.{run_of-number, span_of-block_in, zero_run-le}
use Rattle.lr_rice_coder.proofs.WriterLemmas.{zero_run-more, zero_run-none, zero_run-stop}

true_false : {A : Type 0} → true ≡ false → A
true_false same = cc

-- ---- lists of zeros

all_zero-replicate : (values : List ℕ) → all_zero values ≡ true → values ≡ replicate (length values) 0
all_zero-replicate [] is = refl
all_zero-replicate (zero ∷ values) is = ap (λ l. 0 ∷ l) (all_zero-replicate values is)
all_zero-replicate (suc value ∷ values) is = absurd (false_true is)
  where
    false_true : false ≡ true → ⊥
    false_true same = cc

pub replicate-all_zero : (n : ℕ) → all_zero (replicate n 0) ≡ true
replicate-all_zero zero = refl
replicate-all_zero (suc n) = replicate-all_zero n

take_none : (n : ℕ) → take {A = ℕ} n [] ≡ []
take_none zero = refl
take_none (suc n) = refl

pub take-add : (a b : ℕ) (xs : List ℕ) → take (a + b) xs ≡ take a xs ++ take b (drop a xs)
take-add zero b xs = ap (λ n. take n xs) (omega arith)
take-add (suc a) b [] = take_none (suc a + b) ∙ sym (take_none b)
take-add (suc a) b (x ∷ xs) =
    let turn : suc a + b ≡ suc (a + b) = omega arith in
    ap (λ n. take n (x ∷ xs)) turn ∙ ap (λ l. x ∷ l) (take-add a b xs)

-- the places of a run are 0
pub run_zeros : (block : ℕ) (places : List ℕ) (n at : ℕ) → (at + n) * block ≤ length places →
    take (zero_run block places n at * block) (drop (at * block) places)
    ≡ replicate (zero_run block places n at * block) 0
run_zeros block places zero at inside =
    let none : zero_run block places 0 at * block ≡ 0 = ap (λ r. r * block) (zero_run-none block places at)
    ∙ omega arith in
    ap (λ k. take k (drop (at * block) places)) none ∙ ap (λ k. replicate k 0) (sym none)
run_zeros block places (suc n) at inside =
    elim (cases_Bool (all_zero (places_of_block block places at))) [
      | inr isnt ↦
          let none : zero_run block places (suc n) at * block ≡ 0 =
          ap (λ r. r * block) (zero_run-stop block places (suc n) at isnt) ∙ omega arith in
          ap (λ k. take k (drop (at * block) places)) none ∙ ap (λ k. replicate k 0) (sym none)
      | inl is ↦
          let run = zero_run block places n (at + 1) in
          let rest = drop (at * block) places in
          let more : zero_run block places (suc n) at * block ≡ block + run * block =
          ap (λ r. r * block) (zero_run-more block places n at is) ∙ omega arith in
          let reach : (at + 1) * block ≤ (at + suc n) * block =
          mul-le (at + 1) block (at + suc n) block (omega arith) (omega arith) in
          let size : length (take block rest) ≡ block =
          length-take-le block rest (omega (arith, length-drop (at * block) places, reach)) in
          let front : take block rest ≡ replicate block 0 = all_zero-replicate (take block rest) is
          ∙ ap (λ k. replicate k 0) size in
          let moved : drop block rest ≡ drop ((at + 1) * block) places = drop-drop block (at * block) places
          ∙ ap (λ k. drop k places) (omega arith) in
          let room : (at + 1 + n) * block ≤ length places = omega arith in
          ap (λ k. take k rest) more ∙ take-add block (run * block) rest
          ∙ ap (λ l. l ++ take (run * block) (drop block rest)) front
          ∙ ap (λ l. replicate block 0 ++ take (run * block) l) moved
          ∙ ap (λ l. replicate block 0 ++ l) (run_zeros block places n (at + 1) room)
          ∙ replicate-append-replicate block (run * block) 0 ∙ ap (λ k. replicate k 0) (sym more)
    ]

-- ---- the next part

left-bounds : (form : Form) (at : ℕ) → at < block_count form
    → (1 ≤ left_in_segment form at) × (at + left_in_segment form at ≤ block_count form)
left-bounds form at inside = (omega (arith, mod_below at 64 (omega arith)), omega arith)

room-for : (form : Form) (all : List ℕ) (at n : ℕ) → ArePlaces form all → at + n ≤ block_count form
    → (at + n) * form.block ≤ length all
room-for form all at n are reach = omega (
  arith,
  are.size,
  mul-le (at + n) form.block (block_count form) form.block reach (omega arith),
)

pub block-length : (form : Form) (all : List ℕ) (at : ℕ) → ArePlaces form all → at < block_count form
    → length (places_of_block form.block all at) ≡ form.block
block-length form all at are inside =
    let room = room-for form all at 1 are (omega arith) in
    length-take-le form.block (drop (at * form.block) all) (omega (arith, length-drop (at * form.block) all, room))

block-small : (form : Form) (all : List ℕ) (at k : ℕ) → ArePlaces form all → at < block_count form → k < form.block
    → get_or (places_of_block form.block all at) k 0 ≤ greatest form.bits
block-small form all at k are inside below =
    subst (λ v. v ≤ greatest form.bits) (sym (get_or-take form.block (drop (at * form.block) all) k 0 below
    ∙ get_or-drop (at * form.block) all k 0)) (are.small (at * form.block + k))

pub block-clear : (form : Form) (all : List ℕ) (at : ℕ) → ArePlaces form all → (at == 0) ≡ true
    → get_or (places_of_block form.block all at) 0 0 ≡ 0
block-clear form all zero are first =
    let wide : 0 < form.block = omega (arith, are.wide) in
    let none : 0 * form.block + 0 ≡ 0 = omega arith in
    get_or-take form.block (drop (0 * form.block) all) 0 0 wide ∙ get_or-drop (0 * form.block) all 0 0
    ∙ ap (λ k. get_or all k 0) none ∙ are.clear
block-clear form all (suc at) are first = absurd (true_false (sym first ∙ not_first (suc at) (omega arith)))

values-length : (first : Bool) (here : List ℕ) (block : ℕ) → length here ≡ block
    → length (block_values first here) ≡ places block first 1
values-length true here block size = length-drop 1 here ∙ omega (arith, size)
values-length false here block size = omega (arith, size)

values-small : (first : Bool) (here : List ℕ) (most : ℕ) → ((k : ℕ) → k < length here → get_or here k 0 ≤ most)
    → All (λ v. v ≤ most) (block_values first here)
values-small true here most small k d inside =
    let within : k < length here - 1 = omega (arith, length-drop 1 here) in
    subst (λ v. v ≤ most) (get_or_default (drop 1 here) k 0 d inside)
    (subst (λ v. v ≤ most) (sym (get_or-drop 1 here k 0)) (small (1 + k) (omega arith)))
values-small false here most small k d inside = subst (λ v. v ≤ most) (get_or_default here k 0 d inside)
    (small k inside)

single-valid : (site : BlockSite) (option : BlockOption) (values : List ℕ) → IsSingle option
    → IsOption site.bits option → AreValues site values → IsPart site (block_in option values)
single-valid site ZeroBlock values single is are = absurd single
single-valid site SecondExtension values single is are = are
single-valid site (Split k) values single is are = (is, are)
single-valid site Uncoded values single is are = are

single-values : (site : BlockSite) (option : BlockOption) (values : List ℕ) → IsSingle option
    → values_of site (block_in option values) ≡ values
single-values site ZeroBlock values single = absurd single
single-values site SecondExtension values single = refl
single-values site (Split k) values single = refl
single-values site Uncoded values single = refl

pub record Good (form : Form) (all : List ℕ) (at : ℕ) (part : Part) : Type 0 where
  pub valid : IsPart (site_at form at) part
  pub some : 1 ≤ span_of (left_in_segment form at) part
  pub inside : at + span_of (left_in_segment form at) part ≤ block_count form
  pub values : whole_block (at == 0) (values_of (site_at form at) part)
      ≡ take (span_of (left_in_segment form at) part * form.block) (drop (at * form.block) all)

good_run : (form : Form) (all : List ℕ) (at run : ℕ) → ArePlaces form all → at < block_count form
    → run ≡ zero_run form.block all (left_in_segment form at) at → 1 ≤ run →
    Good form all at (Zeros (run_number (left_in_segment form at) run))
good_run form all at run are inside is some =
    let left = left_in_segment form at in
    let number = run_number left run in
    let few : run ≤ left = omega (arith, is, zero_run-le form.block all left at) in
    let spans : run_of left number ≡ run = run_of-number left run some few in
    let bounds = left-bounds form at inside in
    record {
      valid = omega (arith, spans, few);
      some = omega (arith, spans, some);
      inside = omega (arith, spans, few, bounds.1);
      values = whole_block-zeros (at == 0) (run_of left number * form.block)
          (omega (arith, mul-le 1 1 (run_of left number) form.block (omega (arith, spans)) (omega (arith, are.wide))))
          ∙ ap (λ r. replicate (r * form.block) 0) (spans ∙ is)
          ∙ sym (run_zeros form.block all left at (room-for form all at left are bounds.1))
          ∙ ap (λ r. take (r * form.block) (drop (at * form.block) all)) (sym (spans ∙ is));
    }

good_single : (form : Form) (all : List ℕ) (at : ℕ) (option : BlockOption) → ArePlaces form all
    → at < block_count form → IsSingle option → IsOption form.bits option →
    Good form all at (block_in option (block_values (at == 0) (places_of_block form.block all at)))
good_single form all at option are inside single is_option =
    let left = left_in_segment form at in
    let first = at == 0 in
    let here = places_of_block form.block all at in
    let values = block_values first here in
    let size = block-length form all at are inside in
    let one : span_of left (block_in option values) ≡ 1 = span_of-block_in left option values in
    let wide : 1 * form.block ≡ form.block = omega arith in
    record {
      valid = single-valid (site_at form at) option values single is_option
          (record {
            whole = values-length first here form.block size;
            small =
                values-small first here (greatest form.bits)
                (λ k below. block-small form all at k are inside (omega (arith, size)));
          });
      some = omega (arith, one);
      inside = omega (arith, one);
      values = ap (whole_block first) (single-values (site_at form at) option values single)
          ∙ lead_back first here (omega (arith, size, are.wide)) (block-clear form all at are)
          ∙ ap (λ n. take n (drop (at * form.block) all)) (sym (ap (λ r. r * form.block) one ∙ wide));
    }

pub next_good : (form : Form) (all : List ℕ) (at : ℕ) → ArePlaces form all → at < block_count form
    → Good form all at (next_part form all at)
next_good form all at are inside =
    let run = zero_run form.block all (left_in_segment form at) at in
    let here = places_of_block form.block all at in
    let best = shortest_option-both form.bits (at == 0) here in
    elim (cases_lt run 1) [
      | inl none ↦ subst (Good form all at) (sym (next_part-block form all at (omega arith)))
          (good_single form all at (shortest_option form.bits (at == 0) here) are inside best.0 best.1)
      | inr some ↦ subst (Good form all at) (sym (next_part-run form all at run refl some))
          (good_run form all at run are inside refl some)
    ]

-- ---- all parts

pub parts-follow : (form : Form) (all : List ℕ) (n at : ℕ) → ArePlaces form all → at ≤ block_count form
    → block_count form ≤ at + n →
    Follow form at (parts_from form all n at) (block_count form) × (places_from form at (parts_from form all n at)
    ≡ drop (at * form.block) all)
parts-follow form all zero at are inside enough =
    let P : List Part → Type 0 = λ parts. Follow form at parts (block_count form) × (places_from form at parts
    ≡ drop (at * form.block) all) in
    let end : at ≡ block_count form = omega arith in
    subst P (sym (parts_from-end form all 0 at (omega arith))) (
      end,
      sym (drop_all (at * form.block) all (omega (arith, are.size, ap (λ (a : ℕ). a * form.block) end))),
    )
parts-follow form all (suc n) at are inside enough =
    let P : List Part → Type 0 = λ parts. Follow form at parts (block_count form) × (places_from form at parts
    ≡ drop (at * form.block) all) in
    elim (cases_lt at (block_count form)) [
      | inr over ↦
          let end : at ≡ block_count form = omega arith in
          subst P (sym (parts_from-end form all (suc n) at (omega arith))) (
            end,
            sym (drop_all (at * form.block) all (omega (arith, are.size, ap (λ (a : ℕ). a * form.block) end))),
          )
      | inl before ↦
          let good = next_good form all at are before in
          let span = span_of (left_in_segment form at) (next_part form all at) in
          let later = parts-follow form all n (at + span) are good.inside (omega (arith, good.some)) in
          let rest = drop (at * form.block) all in
          let moved : drop ((at + span) * form.block) all ≡ drop (span * form.block) rest =
          ap (λ k. drop k all) (omega arith) ∙ sym (drop-drop (span * form.block) (at * form.block) all) in
          subst P (sym (parts_from-next form all n at before)) (
            (before, (good.valid, later.0)),
            ap (λ l. l ++ places_from form (at + span) (parts_from form all n (at + span))) good.values
                ∙ ap (λ l. take (span * form.block) rest ++ l) (later.1 ∙ moved)
                ∙ take-append-drop (span * form.block) rest,
          )
    ]

-- ---- how many parts are looked for

pub fuel-any : (form : Form) (all : List ℕ) (n m at : ℕ) → ArePlaces form all → block_count form ≤ at + n
    → block_count form ≤ at + m → parts_from form all n at ≡ parts_from form all m at
fuel-any form all zero m at are enough also = parts_from-end form all 0 at (omega arith)
    ∙ sym (parts_from-end form all m at (omega arith))
fuel-any form all (suc n) zero at are enough also = parts_from-end form all (suc n) at (omega arith)
    ∙ sym (parts_from-end form all 0 at (omega arith))
fuel-any form all (suc n) (suc m) at are enough also =
    elim (cases_lt at (block_count form)) [
      | inr over ↦ parts_from-end form all (suc n) at over ∙ sym (parts_from-end form all (suc m) at over)
      | inl before ↦
          let good = next_good form all at are before in
          let next = at + span_of (left_in_segment form at) (next_part form all at) in
          parts_from-next form all n at before
          ∙ ap (λ l. next_part form all at ∷ l) (fuel-any form all n m next are (omega (arith, good.some))
          (omega (arith, good.some)))
          ∙ sym (parts_from-next form all m at before)
    ]

pub string-end : (form : Form) (all : List ℕ) (reference at : ℕ) → block_count form ≤ at
    → string_from form reference at (parts_from form all (block_count form) at) ≡ []
string-end form all reference at over =
    ap (string_from form reference at) (parts_from-end form all (block_count form) at over)

-- the string from a block on is that of its part, and of what comes after it
pub string-next : (form : Form) (all : List ℕ) (reference at span : ℕ) → ArePlaces form all → at < block_count form
    → span ≡ span_of (left_in_segment form at) (next_part form all at)
    → string_from form reference at (parts_from form all (block_count form) at)
    ≡ part_string form.bits (at == 0) reference (next_part form all at)
    ++ string_from form reference (at + span) (parts_from form all (block_count form) (at + span))
string-next form all reference at span are before is =
    let good = next_good form all at are before in
    let part = part_string form.bits (at == 0) reference (next_part form all at) in
    let next = at + span_of (left_in_segment form at) (next_part form all at) in
    let n = block_count form - 1 in
    let one : block_count form ≡ suc n = omega arith in
    ap (λ (k : ℕ). string_from form reference at (parts_from form all k at)) one
    ∙ ap (string_from form reference at) (parts_from-next form all n at before)
    ∙ ap (λ parts. part ++ string_from form reference next parts)
    (fuel-any form all n (block_count form) next are (omega (arith, good.some)) (omega arith))
    ∙ ap (λ (s : ℕ). part ++ string_from form reference (at + s) (parts_from form all (block_count form) (at + s)))
    (sym is)
