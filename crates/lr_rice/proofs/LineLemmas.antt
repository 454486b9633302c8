-- Lines, part by part.
use Rattle.std.proofs.Common.{◌≡◌, ℕ, zero, suc, ◌+◌, ◌-◌, ◌*◌, ◌/◌, ◌<◌, ◌≤◌, Bool, true, false, List, [], ◌∷◌, ◌++◌}
use Rattle.std.proofs.Common.{length, get_or, take, drop, replicate, refl, sym, ap, ◌∙◌, subst, arith, inl, inr}
use Rattle.std.proofs.Common.{length-append, length-drop}
use Rattle.std.specs.Prelude.{◌==◌}
use Rattle.std.proofs.lemmas.Bool.{cases_lt}
use Rattle.std.proofs.lemmas.Bool.Decides.{nat_tests}
use Rattle.std.proofs.lemmas.List.{append_assoc, append-nil, take_at, drop_at, take_all, drop_all, take-append-le}
use Rattle.std.proofs.lemmas.List.{length-take-le, length-replicate, drop-drop, get_or_append_left}
use Rattle.std.proofs.lemmas.List.{get_or-append_right, get_or-replicate}
use borrow.Rule.Slice.PartMut.{post_of, put_mid}
use Rattle.std.proofs.lemmas.Nat.{mul-le, div-add-mod', le-div, mod_below}
use Rattle.lr_bits.specs.Bits.{number_bits}
use Rattle.lr_rice.specs.declared.choice.BlockOption.{BlockOption}
use Rattle.lr_rice.specs.declared.fault.Cause.TheVariants.{Ended}
use Rattle.lr_rice.specs.CodedLines.{Follow, Form, IsLine, IsOption, IsPart, Part, Zeros, Pairs, Halves, Numbers}
use Rattle.lr_rice.specs.CodedLines.{site_at}
use Rattle.lr_rice.specs.CodedLines.{block_count, greatest, head_string, identifier, left_in_segment, part_string}
use Rattle.lr_rice.specs.CodedLines.{body_string, places, run_of, span_of, string_from, values_from, values_of}
use Rattle.lr_rice.specs.LineFaults.{LineFails, NoIdentifier}
use Rattle.lr_rice.specs.Samples.{WritesPart, WrittenSamples, places_after, sample_after, samples_from, whole_block}
use Rattle.lr_rice.proofs.BlockLemmas.{run_of-pos}
use Rattle.lr_rice.proofs.SampleLemmas.{HaveValues-samples_from, length-samples_from, sample_after-append}
use Rattle.lr_rice.proofs.SampleLemmas.{sample_of-zero, samples_from-append, samples_from-cons}

-- the values of all places, where the first place of the line has the value 0
abbrev pub places_from : Form → ℕ → List Part → List ℕ
places_from form at [] = []
places_from form at (part ∷ parts) =
    whole_block (at == 0) (values_of (site_at form at) part) ++ places_from form
    (at + span_of (left_in_segment form at) part) parts

-- ---- one part more

pub Follow-more : (form : Form) (start : ℕ) (parts : List Part) (at : ℕ) (part : Part)
    → Follow form start parts at → at < block_count form →
    IsPart (site_at form at) part
    → Follow form start (parts ++ part ∷ []) (at + span_of (left_in_segment form at) part)
Follow-more form start [] at part follow before is =
    subst (λ a. Follow form a (part ∷ []) (at + span_of (left_in_segment form at) part)) (sym follow)
    (before, (is, refl))
Follow-more form start (first ∷ parts) at part follow before is = (
  follow.0,
  (
    follow.1.0,
    Follow-more form (start + span_of (left_in_segment form start) first) parts at part follow.1.1 before is,
  ),
)

pub string_from-more : (form : Form) (reference start : ℕ) (parts : List Part) (at : ℕ) (part : Part)
    → Follow form start parts at →
    string_from form reference start
    (parts ++ part ∷ []) ≡ string_from form reference start parts ++ part_string form.bits (at == 0) reference part
string_from-more form reference start [] at part follow =
    append-nil (part_string form.bits (start == 0) reference part)
    ∙ ap (λ a. part_string form.bits (a == 0) reference part) follow
string_from-more form reference start (first ∷ parts) at part follow =
    let front = part_string form.bits (start == 0) reference first in
    let next = start + span_of (left_in_segment form start) first in
    ap (λ l. front ++ l) (string_from-more form reference next parts at part follow.1.1)
    ∙ sym (append_assoc front (string_from form reference next parts) (part_string form.bits (at == 0) reference part))

pub places_from-more : (form : Form) (start : ℕ) (parts : List Part) (at : ℕ) (part : Part)
    → Follow form start parts at →
    places_from form start (parts ++ part ∷ []) ≡ places_from form start parts ++ whole_block (at == 0)
    (values_of (site_at form at) part)
places_from-more form start [] at part follow =
    let whole = λ (a : ℕ). whole_block (a == 0) (values_of (site_at form a) part) in
    append-nil (whole start) ∙ ap whole follow
places_from-more form start (first ∷ parts) at part follow =
    let front = whole_block (start == 0) (values_of (site_at form start) first) in
    let next = start + span_of (left_in_segment form start) first in
    ap (λ l. front ++ l) (places_from-more form next parts at part follow.1.1)
    ∙ sym (append_assoc front (places_from form next parts)
    (whole_block (at == 0) (values_of (site_at form at) part)))

-- ---- sizes

left-pos : (form : Form) (at : ℕ) → at < block_count form → 1 ≤ left_in_segment form at
left-pos form at before = omega (arith, mod_below at 64 (omega arith))

pub span-pos : (form : Form) (at : ℕ) (part : Part) → at < block_count form → 1 ≤ span_of (left_in_segment form at) part
span-pos form at (Zeros m) before = run_of-pos (left_in_segment form at) m (left-pos form at before)
span-pos form at (Pairs lead values) before = omega arith
span-pos form at (Halves k values) before = omega arith
span-pos form at (Numbers values) before = omega arith

-- no part ends after the line
pub span-inside : (form : Form) (at : ℕ) (part : Part) → at < block_count form
    → IsPart (site_at form at) part →
    at + span_of (left_in_segment form at) part ≤ block_count form
span-inside form at (Zeros m) before is = omega (arith, is)
span-inside form at (Pairs lead values) before is = omega arith
span-inside form at (Halves k values) before is = omega arith
span-inside form at (Numbers values) before is = omega arith

whole-length : (first : Bool) (block span : ℕ) (values : List ℕ) → 1 ≤ block → 1 ≤ span
    → length values ≡ places block first span → length (whole_block first values) ≡ span * block
whole-length true block span values wide some size = omega (arith, size, mul-le 1 1 span block some wide)
whole-length false block span values wide some size = omega (arith, size)

pub part-length : (form : Form) (at : ℕ) (part : Part) → 1 ≤ form.block → at < block_count form
    → IsPart (site_at form at) part →
    length (whole_block (at == 0) (values_of (site_at form at) part)) ≡ span_of
    (left_in_segment form at) part * form.block
part-length form at (Zeros m) wide before is =
    let left = left_in_segment form at in
    whole-length (at == 0) form.block (run_of left m)
    (replicate (places form.block (at == 0) (run_of left m)) 0) wide (run_of-pos left m (left-pos form at before))
    (length-replicate (places form.block (at == 0) (run_of left m)) 0)
part-length form at (Pairs lead values) wide before is =
    whole-length (at == 0) form.block 1 values wide (omega arith) is.whole
part-length form at (Halves k values) wide before is =
    whole-length (at == 0) form.block 1 values wide (omega arith) is.1.whole
part-length form at (Numbers values) wide before is =
    whole-length (at == 0) form.block 1 values wide (omega arith) is.whole

pub places-length : (form : Form) (start : ℕ) (parts : List Part) (at : ℕ) → 1 ≤ form.block
    → Follow form start parts at → length (places_from form start parts) + start * form.block ≡ at * form.block
places-length form start [] at wide follow = omega (arith, ap (λ (a : ℕ). a * form.block) follow)
places-length form start (part ∷ parts) at wide follow =
    let span = span_of (left_in_segment form start) part in
    let front = whole_block (start == 0) (values_of (site_at form start) part) in
    let later = places-length form (start + span) parts at wide follow.1.1 in
    omega (
      arith,
      length-append front (places_from form (start + span) parts),
      part-length form start part wide follow.0 follow.1.0,
      later,
    )

-- ---- values

values-small : (form : Form) (at : ℕ) (part : Part)
    → IsPart (site_at form at) part →
    (k : ℕ) → k < length (values_of (site_at form at) part)
    → get_or (values_of (site_at form at) part) k 0 ≤ greatest form.bits
values-small form at (Zeros m) is k inside =
    let n = places form.block (at == 0) (run_of (left_in_segment form at) m) in
    omega (arith, get_or-replicate {A = ℕ} n k 0 0 (omega (arith, length-replicate {A = ℕ} n 0)))
values-small form at (Pairs lead values) is k inside = is.small k 0 inside
values-small form at (Halves j values) is k inside = is.1.small k 0 inside
values-small form at (Numbers values) is k inside = is.small k 0 inside

pub values_from-small : (form : Form) (start : ℕ) (parts : List Part) (at : ℕ) → Follow form start parts at →
    (k : ℕ) → k < length (values_from form start parts) → get_or (values_from form start parts) k 0 ≤ greatest form.bits
values_from-small form start [] at follow k inside = absurd (omega arith)
values_from-small form start (part ∷ parts) at follow k inside =
    let front = values_of (site_at form start) part in
    let next = start + span_of (left_in_segment form start) part in
    let later = values_from form next parts in
    elim (cases_lt k (length front)) [
      | inl early ↦ subst (λ v. v ≤ greatest form.bits) (sym (get_or_append_left front later 0 k early))
          (values-small form start part follow.1.0 k early)
      | inr late ↦ subst (λ v. v ≤ greatest form.bits)
          (sym (get_or-append_right front later (length front) k 0 refl late))
          (values_from-small form next parts at follow.1.1 (k - length front)
          (omega (arith, length-append front later)))
    ]

pub not_first : (at : ℕ) → 1 ≤ at → (at == 0) ≡ false
not_first at some = grind (arith, nat_tests)

whole_block-later : (first : Bool) (values : List ℕ) → first ≡ false → whole_block first values ≡ values
whole_block-later true values later = cc
whole_block-later false values later = refl

-- after a line's first part no place is its first
later-places : (form : Form) (start : ℕ) (parts : List Part) (at : ℕ) → 1 ≤ start → Follow form start parts at
    → places_from form start parts ≡ values_from form start parts
later-places form start [] at behind follow = refl
later-places form start (part ∷ parts) at behind follow =
    let next = start + span_of (left_in_segment form start) part in
    let values = values_of (site_at form start) part in
    ap (λ l. l ++ places_from form next parts) (whole_block-later (start == 0) values (not_first start behind))
    ∙ ap (λ l. values ++ l) (later-places form next parts at (omega arith) follow.1.1)

pub places-values : (form : Form) (parts : List Part) (at : ℕ) → 1 ≤ at → Follow form 0 parts at
    → places_from form 0 parts ≡ 0 ∷ values_from form 0 parts
places-values form [] at some follow = absurd (omega arith)
places-values form (part ∷ parts) at some follow =
    ap (λ l. 0 ∷ values_of (site_at form 0) part ++ l)
    (later-places form (0 + span_of (left_in_segment form 0) part) parts at
    (omega (arith, span-pos form 0 part follow.0)) follow.1.1)

-- ---- writing part by part

take_behind : (n start : ℕ) (front back : List ℕ) → length front ≡ start → start ≤ n
    → take n (front ++ back) ≡ front ++ take (n - start) back
take_behind n zero [] back size inside = ap (λ k. take k back) (omega arith)
take_behind n (suc start) [] back size inside = absurd (omega arith)
take_behind n zero (x ∷ front) back size inside = absurd (omega arith)
take_behind zero (suc start) (x ∷ front) back size inside = absurd (omega arith)
take_behind (suc n) (suc start) (x ∷ front) back size inside =
    ap (λ l. x ∷ l) (take_behind n start front back (omega arith) (omega arith))
    ∙ ap (λ k. x ∷ front ++ take k back) (omega arith)

pub places_after-more : (old out all more new : List ℕ) (start : ℕ) → length all ≡ start → start ≤ length old
    → out ≡ places_after old all →
    new ≡ places_after (drop start out) more → take start out ++ new ≡ places_after old (all ++ more)
unfolding places_after
places_after-more old out all more new start size inside before after =
    let n = length old in
    let out_is : out ≡ all ++ drop start old =
    before ∙ ap (λ k. take n (all ++ drop k old)) size
    ∙ take_all n (all ++ drop start old)
    (omega (arith, length-append all (drop start old), length-drop start old, size)) in
    let front : take start out ≡ all = ap (take start) out_is ∙ take_at all (drop start old) start size in
    let back : drop start out ≡ drop start old = ap (drop start) out_is ∙ drop_at all (drop start old) start size in
    let tail = drop (length more) (drop start old) in
    let tail_is : drop (length (all ++ more)) old ≡ tail =
    ap (λ k. drop k old) (length-append all more ∙ ap (λ k. k + length more) size)
    ∙ sym (drop-drop (length more) start old) in
    let new_is : new ≡ take (n - start) (more ++ tail) =
    after ∙ ap (λ l. take (length l) (more ++ drop (length more) l)) back
    ∙ ap (λ k. take k (more ++ tail)) (length-drop start old) in
    ap (λ l. l ++ new) front ∙ ap (λ l. all ++ l) new_is
    ∙ sym (ap (λ l. take n ((all ++ more) ++ l)) tail_is ∙ ap (take n) (append_assoc all more tail)
    ∙ take_behind n start all (more ++ tail) size inside)

-- ---- the line

-- so far the line was read as these parts, and before the next one its head
pub record Reached (form : Form) (reference : ℕ) (string rest old new : List ℕ) (option : BlockOption)
    (at last : ℕ) : Type 0 where
  pub parts : List Part
  pub follow : Follow form 0 parts at
  pub before : at < block_count form
  pub is_option : IsOption form.bits option
  pub is_string : string ≡ string_from form reference 0 parts ++
      (head_string form.bits (at == 0) reference option ++ rest)
  pub written : new ≡ places_after old (samples_from (greatest form.bits) reference (places_from form 0 parts))
  pub is_last : last ≡ sample_after (greatest form.bits) reference (places_from form 0 parts)
  pub in_range : last ≤ greatest form.bits
  pub reference_in_range : reference ≤ greatest form.bits

-- the same without a next head
pub record Done (form : Form) (reference : ℕ) (string rest old new : List ℕ) (at last : ℕ) : Type 0 where
  pub parts : List Part
  pub follow : Follow form 0 parts at
  pub inside : at ≤ block_count form
  pub some : 1 ≤ at
  pub is_string : string ≡ string_from form reference 0 parts ++ rest
  pub written : new ≡ places_after old (samples_from (greatest form.bits) reference (places_from form 0 parts))
  pub is_last : at < block_count form → last ≡ sample_after (greatest form.bits) reference (places_from form 0 parts)
  pub in_range : last ≤ greatest form.bits
  pub reference_in_range : reference ≤ greatest form.bits

places_after-nil : (old : List ℕ) → old ≡ places_after old []
unfolding places_after
places_after-nil old = sym (take_all (length old) old (omega arith))

length-places_after : (old out written : List ℕ) → out ≡ places_after old written → length out ≡ length old
unfolding places_after
length-places_after old out written is =
    ap length is ∙ length-take-le (length old) (written ++ drop (length written) old)
    (omega (arith, length-append written (drop (length written) old), length-drop (length written) old))

places_after-full : (old written : List ℕ) → length old ≤ length written
    → places_after old written ≡ take (length old) written
unfolding places_after
places_after-full old written enough = take-append-le (length old) written (drop (length written) old) enough

-- a block of the line begins before its last column, and the blocks have a place for each column
pub block-before : (form : Form) (at : ℕ) → 1 ≤ form.block → at < block_count form → at * form.block < form.columns
block-before form at wide before =
    let n = form.columns + form.block - 1 in
    omega (
      arith,
      div-add-mod' n form.block,
      mul-le (at + 1) form.block (n / form.block) form.block (omega arith)
          (omega arith),
    )

pub blocks-cover : (form : Form) → 1 ≤ form.block → form.columns ≤ block_count form * form.block
blocks-cover form wide =
    let n = form.columns + form.block - 1 in
    omega (arith, div-add-mod' n form.block, mod_below n form.block wide)

-- where the line begins
pub begun : (form : Form) (reference : ℕ) (string behind rest old : List ℕ) (option : BlockOption)
    → 0 < block_count form → IsOption form.bits option → reference ≤ greatest form.bits →
    string ≡ identifier form.bits option ++ behind → behind ≡ number_bits form.bits reference ++ rest
    → Reached form reference string rest old old option 0 reference
unfolding samples_from sample_after
begun form reference string behind rest old option some is_option in_range is more =
    record {
      parts = [];
      follow = refl;
      before = some;
      is_option = is_option;
      is_string = is ∙ ap (λ l. identifier form.bits option ++ l) more
          ∙ sym (append_assoc (identifier form.bits option) (number_bits form.bits reference) rest);
      written = places_after-nil old;
      is_last = refl;
      in_range = in_range;
      reference_in_range = in_range;
    }

-- one part more, which was written at its place
pub part_done : (form : Form) (reference : ℕ) (string now rest old out new : List ℕ) (option : BlockOption)
    (at last blocks next start : ℕ) →
    1 ≤ form.block → form.columns ≡ length old → Reached form reference string now old out option at last →
    start ≡ at * form.block → start ≤ length old
    → WritesPart (site_at form at) option now rest
    (record { before = last; old = drop start out; new = new; blocks = blocks; last = next }) →
    Done form reference string rest old (take start out ++ new) (at + blocks) next
part_done form reference string now rest old out new option at last blocks next start wide columns reached
    start_is inside part =
    let most = greatest form.bits in
    let parts = reached.parts in
    let left = left_in_segment form at in
    let values = whole_block (at == 0) (values_of (site_at form at) part.part) in
    let so_far = places_from form 0 parts in
    let is_part = part.reads.is_part in
    let more = places_from-more form 0 parts at part.part reached.follow in
    let size : length (samples_from most reference so_far) ≡ start = length-samples_from most reference so_far
    ∙ omega (arith, places-length form 0 parts at wide reached.follow, start_is) in
    let turn : at + span_of left part.part ≡ at + blocks = ap (λ n. at + n) part.spans in
    let samples : samples_from most reference
    (so_far ++ values) ≡ samples_from most reference so_far ++ samples_from most last values =
    samples_from-append most reference so_far values
    ∙ ap (λ p. samples_from most reference so_far ++ samples_from most p values) (sym reached.is_last) in
    let out_size : length out ≡ length old = length-places_after old out
    (samples_from most reference so_far) reached.written in
    let head = head_string form.bits (at == 0) reference option in
    let body = body_string form.bits (at == 0) part.part in
    let front = string_from form reference 0 parts in
    record {
      parts = parts ++ part.part ∷ [];
      follow = subst (λ end. Follow form 0 (parts ++ part.part ∷ []) end) turn
          (Follow-more form 0 parts at part.part reached.follow reached.before is_part);
      inside = subst (λ end. end ≤ block_count form) turn (span-inside form at part.part reached.before is_part);
      some = omega (arith, span-pos form at part.part reached.before, part.spans);
      is_string = reached.is_string ∙ ap (λ l. front ++ (head ++ l)) part.reads.is_string
          ∙ ap (λ l. front ++ l) (sym (append_assoc head body rest))
          ∙ ap (λ o. front ++ ((head_string form.bits (at == 0) reference o ++ body) ++ rest))
          (sym part.reads.in_option)
          ∙ sym (append_assoc front (part_string form.bits (at == 0) reference part.part) rest)
          ∙ ap (λ l. l ++ rest) (sym (string_from-more form reference 0 parts at part.part reached.follow));
      written = places_after-more old out (samples_from most reference so_far)
          (samples_from most last values) new start size inside reached.written part.written
          ∙ ap (places_after old) (sym samples ∙ ap (samples_from most reference) (sym more));
      is_last = λ before. part.is_last
          (omega (
            arith,
            part-length form at part.part wide reached.before is_part,
            ap (λ (n : ℕ). n * form.block) part.spans,
            length-drop start out,
            start_is,
            out_size,
            block-before form (at + blocks) wide before,
            columns,
          ))
          ∙ ap (λ p. sample_after most p values) reached.is_last
          ∙ sym (sample_after-append most reference so_far values) ∙ ap (sample_after most reference) (sym more);
      in_range = part.in_range;
      reference_in_range = reached.reference_in_range;
    }

pub part_put : {form : Form} {reference : ℕ} {string now rest old out new : List ℕ} {option : BlockOption}
    {at last blocks next left : ℕ} → Reached form reference string now old out option at last →
    WritesPart (record (site_at form at) { left = left }) option now rest (record {
      before = last;
      old = take (length out - at * form.block) (drop (at * form.block) out);
      new = new;
      blocks = blocks;
      last = next;
    }) →
    left ≡ left_in_segment form at → 1 ≤ form.block → form.columns ≡ length old → length out ≡ length old →
    Done form reference string rest old (put_mid (at * form.block) (length out - at * form.block) out new)
    (at + blocks) next
part_put {form} {reference} {string} {now} {rest} {old} {out} {new} {option} {at} {last} {blocks} {next} {left} reached
    part left_is wide columns size =
    let start = at * form.block in
    let written : List ℕ → WrittenSamples =
    λ l. record { before = last; old = l; new = new; blocks = blocks; last = next } in
    let inside : start ≤ length old = omega (arith, block-before form at wide reached.before, columns) in
    let none : post_of start (length out - start) out ≡ [] = drop_all (length out - start) (drop start out)
    (omega (arith, length-drop start out)) in
    let slice : take (length out - start) (drop start out) ≡ drop start out = take_all (length out - start)
    (drop start out) (omega (arith, length-drop start out)) in
    let put : put_mid start (length out - start) out new ≡ take start out ++ new = ap (λ l. take start out ++
    (new ++ l)) none ∙ ap (λ l. take start out ++ l) (append-nil new) in
    subst (λ l. Done form reference string rest old l (at + blocks) next) (sym put)
    (part_done form reference string now rest old out new option at last blocks next start wide columns reached
    refl inside
    (subst (λ k. WritesPart (record (site_at form at) { left = k }) option now rest (written (drop start out))) left_is
    (subst (λ l. WritesPart (record (site_at form at) { left = left }) option now rest (written l)) slice part)))

pub block_count-pos : (form : Form) → 1 ≤ form.block → 1 ≤ form.columns → 0 < block_count form
block_count-pos form wide some = le-div 1 (form.columns + form.block - 1) form.block wide (omega arith)

-- the line is there
pub line_read : {form : Form} {reference : ℕ} {string rest old new : List ℕ} {at last : ℕ} →
    Done form reference string rest old new at last → 1 ≤ form.block → form.columns ≡ length old →
    block_count form ≤ at → (coding : List ℕ) × IsLine form new coding × (string ≡ coding ++ rest)
line_read {form} {reference} {string} {rest} {old} {new} {at} {last} done wide columns end =
    let most = greatest form.bits in
    let parts = done.parts in
    let values = values_from form 0 parts in
    let all = places_from form 0 parts in
    let whole : at ≡ block_count form = omega (arith, done.inside) in
    let all_is : all ≡ 0 ∷ values = places-values form parts at done.some done.follow in
    let samples : samples_from most reference all ≡ reference ∷ samples_from most reference values =
    ap (samples_from most reference) all_is ∙ samples_from-cons most reference 0 values
    ∙ ap (λ s. s ∷ samples_from most s values) (sample_of-zero most reference) in
    let enough : length old ≤ length (samples_from most reference all) =
    omega (
      arith,
      length-samples_from most reference all,
      places-length form 0 parts at wide done.follow,
      blocks-cover form wide,
      ap (λ (n : ℕ). n * form.block) whole,
      columns,
    ) in (
      string_from form reference 0 parts,
      record {
        reference = reference;
        in_range = done.reference_in_range;
        values = values;
        codes = record {
          parts = parts;
          follow = subst (λ to. Follow form 0 parts to) whole done.follow;
          are_values = refl;
          is_string = refl;
        };
        others = samples_from most reference values;
        have_values = HaveValues-samples_from most reference values done.reference_in_range
            (values_from-small form 0 parts at done.follow);
        are_samples = done.written ∙ places_after-full old (samples_from most reference all) enough
            ∙ ap (λ n. take n (samples_from most reference all)) (sym columns)
            ∙ ap (take form.columns) samples;
      },
      done.is_string,
    )

-- the next head is there
pub goes_on : {form : Form} {reference : ℕ} {string now rest old new : List ℕ} {option : BlockOption}
    {at last : ℕ} → Done form reference string now old new at last → at < block_count form →
    IsOption form.bits option → now ≡ identifier form.bits option ++ rest
    → Reached form reference string rest old new option at last
goes_on {form} {reference} {string} {now} {rest} {old} {new} {option} {at} {last} done before is_option more =
    let later : head_string form.bits (at == 0) reference option ≡ identifier form.bits option =
    ap (λ first. head_string form.bits first reference option) (not_first at done.some)
    ∙ append-nil (identifier form.bits option) in
    record {
      parts = done.parts;
      follow = done.follow;
      before = before;
      is_option = is_option;
      is_string = done.is_string ∙ ap (λ l. string_from form reference 0 done.parts ++ l)
          (more ∙ ap (λ l. l ++ rest) (sym later));
      written = done.written;
      is_last = done.is_last before;
      in_range = done.in_range;
      reference_in_range = done.reference_in_range;
    }

-- ---- faults

-- the first identifier, or the reference, isn't there
pub no_next : {form : Form} {reference : ℕ} {string now old new : List ℕ} {at last : ℕ}
    → Done form reference string now old new at last → at < block_count form →
    NoIdentifier form.bits now → LineFails form string Ended
no_next {form} {reference} {string} {now} {old} {new} {at} {last} done before none =
    record {
      reference = reference;
      in_range = done.reference_in_range;
      parts = done.parts;
      at = at;
      follow = done.follow;
      before = before;
      rest = now;
      is_string = done.is_string;
      fails = inl (none, refl);
    }
