-- Parts and lines as a function of the string: each line has one reading.
use Rattle.std.proofs.Common.{◌≡◌, ◌⊎◌, ℕ, zero, suc, ◌+◌, ◌*◌, ◌/◌, ◌%◌, ◌^◌, ◌<◌, ◌≤◌, Bool, true, false, List, []}
use Rattle.std.proofs.Common.{◌∷◌, ◌++◌, length, get_or, take, replicate, All, refl, sym, ap, ◌∙◌, subst, arith, inl}
use Rattle.std.proofs.Common.{inr, zero-add}
use Rattle.std.specs.Prelude.{Result, Ok, Err, nat_lt, nat_le, ◌==◌, if◌then◌else◌}
use Rattle.std.proofs.lemmas.Bool.{le-leb, lt-leb}
use Rattle.std.proofs.lemmas.List.{append_assoc, append_cancel_right}
use Rattle.std.proofs.lemmas.Nat.{pow_pos, mod_low}
use Rattle.lr_bits.specs.Bits.{number_bits}
use Rattle.lr_rice.specs.declared.choice.BlockOption.{BlockOption}
use Rattle.lr_rice.specs.declared.choice.BlockOption.TheVariants.{ZeroBlock, SecondExtension, Split, Uncoded}
use Rattle.lr_rice.specs.declared.fault.Cause.{Cause}
use Rattle.lr_rice.specs.declared.fault.Cause.TheVariants.{Ended, RunPastSegment}
use Rattle.lr_rice.specs.declared.fault.RiceFault.{RiceFault}
use Rattle.lr_rice.specs.declared.fault.RiceFault.TheVariants.{NoMemory}
use Rattle.lr_rice.specs.CodedLines.{AreLines, AreValues, BlockSite, Follow, Form, IsLine, IsOption, IsPart, Part}
use Rattle.lr_rice.specs.CodedLines.{Zeros, Pairs, Halves, site_at}
use Rattle.lr_rice.specs.CodedLines.{Numbers, block_count, body_string, greatest, identifier, left_in_segment}
use Rattle.lr_rice.specs.CodedLines.{option_of, part_string, places, run_of, span_of, string_from, values_from}
use Rattle.lr_rice.specs.CodedLines.{values_of}
use Rattle.lr_rice.specs.LineFaults.{BodyFails, LineFails, LinesFail, PartFails, ValuesFail, fault_in}
use Rattle.lr_rice.specs.Laws.{FaultsAreOne, IsForm, LinesAreOne, LinesHaveNoFault}
use Rattle.lr_rice.specs.Samples.{samples_from}
use Rattle.lr_rice.proofs.ItemLemmas.{split_by_none}
use Rattle.lr_rice.proofs.LineLemmas.{block_count-pos, not_first, span-pos}
use Rattle.lr_rice.proofs.SampleLemmas.{HaveValues-one}
use Rattle.lr_rice.proofs.Reading.{chain, take_number, take_number-ends, take_number-is, take_numbers}
use Rattle.lr_rice.proofs.Reading.{take_numbers-ends, take_numbers-is, take_option, take_option-ends, take_option-is}
use Rattle.lr_rice.proofs.Reading.{take_pairs, take_pairs-fails, take_pairs-is, take_sequence, take_sequence-ends}
use Rattle.lr_rice.proofs.Reading.{take_sequence-is, take_splits, take_splits-fails, take_splits-is, take_values}
use Rattle.lr_rice.proofs.Reading.{take_values-fails, take_values-is}

-- ---- what stands after a head: how many blocks, their values, and what is left

abbrev Body : Type 0
Body = Result (ℕ × List ℕ × List ℕ) Cause

abbrev one : Result (List ℕ × List ℕ) Cause → Body
one (Ok x) = Ok (1, x.0, x.1)
one (Err cause) = Err cause

-- the number in the place of the reference is dropped
abbrev after_lead : List ℕ → List ℕ
after_lead [] = []
after_lead (lead ∷ values) = values

abbrev unlead : Bool → Result (List ℕ × List ℕ) Cause → Body
unlead first (Ok x) = Ok (1, (if first then after_lead x.0 else x.0), x.1)
unlead first (Err cause) = Err cause

abbrev run_at : Bool → ℕ → List ℕ → List ℕ → Body
run_at true run values rest = Ok (run, values, rest)
run_at false run values rest = Err RunPastSegment

abbrev after_run : BlockSite → ℕ × List ℕ → Body
after_run site x =
    let run = run_of site.left x.0 in
    run_at (nat_le run site.left) run (replicate (places site.block site.first run) 0) x.1

abbrev take_body : BlockSite → BlockOption → List ℕ → Body
take_body site ZeroBlock string = chain (take_sequence string) (after_run site)
take_body site SecondExtension string = unlead site.first (take_pairs site.bits site.first (site.block / 2) string)
take_body site (Split zero) string = one (take_values site.bits (places site.block site.first 1) string)
take_body site (Split (suc k)) string = one (take_splits site.bits (suc k) (places site.block site.first 1) string)
take_body site Uncoded string = one (take_numbers site.bits (places site.block site.first 1) string)

each : (bits : ℕ) (values : List ℕ) → All (λ v. v ≤ greatest bits) values → (k : ℕ) → k < length values
    → get_or values k 0 ≤ greatest bits
each bits values small k inside = small k 0 inside

lead_each : (most : ℕ) (lead : ℕ) (values : List ℕ) → All (λ v. v ≤ most) values → (k : ℕ)
    → k < length (lead ∷ values) → (0 < k) ⊎ (true ≡ false) → get_or (lead ∷ values) k 0 ≤ most
lead_each most lead values small zero inside (inl none) = absurd (omega arith)
lead_each most lead values small zero inside (inr none) = cc
lead_each most lead values small (suc k) inside asked = small k 0 (omega arith)

pairs-are : (site : BlockSite) (first : Bool) (lead : ℕ) (values rest : List ℕ) → 1 ≤ site.block
    → site.block % 2 ≡ 0 → AreValues (record site { first = first }) values →
    take_body (record site { first = first }) SecondExtension (body_string site.bits first (Pairs lead values) ++ rest)
    ≡ Ok (1, values, rest)
pairs-are site true lead values rest wide even is =
    ap (unlead true) (take_pairs-is site.bits true (site.block / 2) (lead ∷ values) rest (omega (arith, is.whole))
    (lead_each (greatest site.bits) lead values is.small))
pairs-are site false lead values rest wide even is =
    ap (unlead false) (take_pairs-is site.bits false (site.block / 2) values rest (omega (arith, is.whole))
    (λ k inside asked. is.small k 0 inside))

take_body-is : (site : BlockSite) (part : Part) (rest : List ℕ) → 1 ≤ site.block → site.block % 2 ≡ 0
    → IsPart site part →
    take_body site (option_of part) (body_string site.bits site.first part ++ rest)
    ≡ Ok (span_of site.left part, values_of site part, rest)
take_body-is site (Zeros m) rest wide even is =
    let run = run_of site.left m in
    ap (λ x. chain x (after_run site)) (take_sequence-is m rest)
    ∙ ap (λ b. run_at b run (replicate (places site.block site.first run) 0) rest) (le-leb run site.left is)
take_body-is site (Pairs lead values) rest wide even is = pairs-are site site.first lead values rest wide even is
take_body-is site (Halves zero values) rest wide even is =
    ap (λ n. one (take_values site.bits n (body_string site.bits site.first (Halves 0 values) ++ rest)))
    (sym is.1.whole)
    ∙ ap (λ l. one (take_values site.bits (length values) (l ++ rest))) (split_by_none values)
    ∙ ap one (take_values-is site.bits values rest (each site.bits values is.1.small))
take_body-is site (Halves (suc k) values) rest wide even is =
    ap (λ n. one (take_splits site.bits (suc k) n (body_string site.bits site.first (Halves (suc k) values) ++ rest)))
    (sym is.1.whole)
    ∙ ap one (take_splits-is site.bits (suc k) values rest (each site.bits values is.1.small))
take_body-is site (Numbers values) rest wide even is =
    ap (λ n. one (take_numbers site.bits n (body_string site.bits site.first (Numbers values) ++ rest))) (sym is.whole)
    ∙ ap one (take_numbers-is site.bits values rest (each site.bits values is.small))

take_values_fail : (site : BlockSite) (k : ℕ) (string : List ℕ) (cause : Cause)
    → ValuesFail site.bits (places site.block site.first 1) (Split k) string cause →
    take_body site (Split k) string ≡ Err cause
take_values_fail site zero string cause fails =
    ap one (take_values-fails site.bits (places site.block site.first 1) string cause fails)
take_values_fail site (suc k) string cause fails =
    ap one (take_splits-fails site.bits (suc k) (places site.block site.first 1) string cause fails)

take_body-fails : (site : BlockSite) (option : BlockOption) (string : List ℕ) (cause : Cause)
    → BodyFails site option string cause → take_body site option string ≡ Err cause
take_body-fails site ZeroBlock string cause (inl none) =
    ap (λ x. chain x (after_run site)) (take_sequence-ends string none.0) ∙ ap Err (sym none.1)
take_body-fails site ZeroBlock string cause (inr there) =
    let m = there.0 in
    let rest = there.1 in
    let run = run_of site.left m in
    ap (take_body site ZeroBlock) there.2
    ∙ ap (λ x. chain x (after_run site)) (take_sequence-is m rest)
    ∙ ap (λ b. run_at b run (replicate (places site.block site.first run) 0) rest) (lt-leb run site.left there.3)
    ∙ ap Err (sym there.4)
take_body-fails site SecondExtension string cause fails =
    ap (unlead site.first) (take_pairs-fails site.bits site.first (site.block / 2) string cause fails)
take_body-fails site (Split k) string cause fails = take_values_fail site k string cause fails
take_body-fails site Uncoded string cause fails =
    ap one (take_numbers-ends site.bits (places site.block site.first 1) string fails.0) ∙ ap Err (sym fails.1)

-- ---- parts: the reference, their values, and what is left

abbrev take_reference : Bool → ℕ → ℕ → List ℕ → Result (ℕ × List ℕ) Cause
take_reference true bits reference string = take_number bits string
take_reference false bits reference string = Ok (reference, string)

take_reference-is : (first : Bool) (bits before reference : ℕ) (rest : List ℕ) → reference ≤ greatest bits
    → (first ≡ false → before ≡ reference) →
    take_reference first bits before ((if first then number_bits bits reference else []) ++ rest) ≡ Ok (reference, rest)
take_reference-is true bits before reference rest in_range kept =
    let whole : reference ≡ 0 * 2 ^ bits + reference = omega arith in
    take_number-is bits reference rest
    ∙ ap (λ n. Ok (n, rest)) (ap (λ n. n % 2 ^ bits) whole
    ∙ mod_low 0 bits reference (omega (arith, in_range, pow_pos bits)))
take_reference-is false bits before reference rest in_range kept = ap (λ n. Ok (n, rest)) (kept refl)

abbrev with_values : List ℕ → Body → Body
with_values front (Ok x) = Ok (x.0, front ++ x.1, x.2)
with_values front (Err cause) = Err cause

abbrev gate : Bool → ℕ → List ℕ → Body → Body
gate true reference string next = next
gate false reference string next = Ok (reference, [], string)

abbrev after_body : (ℕ → ℕ → List ℕ → Body) → ℕ → ℕ → ℕ × List ℕ × List ℕ → Body
after_body go at reference b = with_values b.1 (go (at + b.0) reference b.2)

abbrev after_reference : Form → (ℕ → ℕ → List ℕ → Body) → ℕ → BlockOption → ℕ × List ℕ → Body
after_reference form go at option r =
    chain (take_body (site_at form at) option r.1) (after_body go at r.0)

abbrev after_option : Form → (ℕ → ℕ → List ℕ → Body) → ℕ → ℕ → BlockOption × List ℕ → Body
after_option form go at reference o =
    chain (take_reference (at == 0) form.bits reference o.1) (after_reference form go at o.0)

abbrev take_parts : Form → ℕ → ℕ → ℕ → List ℕ → Body
take_parts form zero at reference string = Err Ended
take_parts form (suc fuel) at reference string =
    gate (nat_lt at (block_count form)) reference string
    (chain (take_option form.bits string) (after_option form (take_parts form fuel) at reference))

lt-true : (a b : ℕ) → a < b → nat_lt a b ≡ true
lt-true a b less = le-leb (suc a) b less

lt-false : (a b : ℕ) → b ≤ a → nat_lt a b ≡ false
lt-false a b more = lt-leb (suc a) b (omega arith)

is_option_of : (site : BlockSite) (part : Part) → IsPart site part → IsOption site.bits (option_of part)
is_option_of site (Zeros m) is = tt
is_option_of site (Pairs lead values) is = tt
is_option_of site (Halves k values) is = is.0
is_option_of site (Numbers values) is = tt

-- one part is read
part_step : (form : Form) (fuel at before reference : ℕ) (part : Part) (later rest : List ℕ) → IsForm form
    → at < block_count form → reference ≤ greatest form.bits →
    ((at == 0) ≡ false → before ≡ reference)
    → IsPart (site_at form at) part → IsOption form.bits (option_of part) →
    take_parts form (suc fuel) at before ((part_string form.bits (at == 0) reference part ++ later) ++ rest)
    ≡ with_values (values_of (site_at form at) part)
    (take_parts form fuel (at + span_of (left_in_segment form at) part) reference (later ++ rest))
part_step form fuel at before reference part later rest is_form inside in_range kept is is_option =
    let first = at == 0 in
    let go = take_parts form fuel in
    let option = option_of part in
    let name = identifier form.bits option in
    let number = if first then number_bits form.bits reference else [] in
    let body = body_string form.bits first part in
    let behind = body ++ (later ++ rest) in
    let string = (part_string form.bits first reference part ++ later) ++ rest in
    let apart : string ≡ name ++ (number ++ behind) =
    append_assoc (part_string form.bits first reference part) later rest
    ∙ append_assoc (name ++ number) body (later ++ rest) ∙ append_assoc name number behind in
    ap (λ b. gate b before string (chain (take_option form.bits string) (after_option form go at before)))
    (lt-true at (block_count form) inside)
    ∙ ap (λ l. chain (take_option form.bits l) (after_option form go at before)) apart
    ∙ ap (λ x. chain x (after_option form go at before)) (take_option-is form.bits option (number ++ behind) is_option)
    ∙ ap (λ x. chain x (after_reference form go at option))
    (take_reference-is first form.bits before reference behind in_range kept)
    ∙ ap (λ x. chain x (after_body go at reference)) (take_body-is (site_at form at) part
    (later ++ rest) (omega (arith, is_form.least_block)) is_form.even is)

Follow-length : (form : Form) (at : ℕ) (parts : List Part) (end : ℕ) → Follow form at parts end
    → length parts + at ≤ end
Follow-length form at [] end follow = omega (arith, follow)
Follow-length form at (part ∷ parts) end follow =
    omega (
      arith,
      span-pos form at part follow.0,
      Follow-length form (at + span_of (left_in_segment form at) part) parts end follow.1.1,
    )

take_parts-is : (form : Form) (fuel at before reference : ℕ) (parts : List Part) (rest : List ℕ) → IsForm form
    → Follow form at parts (block_count form) → length parts < fuel →
    reference ≤ greatest form.bits → ((at == 0) ≡ false → before ≡ reference) →
    take_parts form fuel at before (string_from form reference at parts ++ rest) ≡ Ok
    (reference, values_from form at parts, rest)
take_parts-is form zero at before reference parts rest is_form follow enough in_range kept = absurd (omega arith)
take_parts-is form (suc fuel) at before reference [] rest is_form follow enough in_range kept =
    let some : 1 ≤ at = omega (arith, follow, block_count-pos form (omega (arith, is_form.least_block)) is_form.some) in
    ap (λ b. gate b before rest
    (chain (take_option form.bits rest) (after_option form (take_parts form fuel) at before)))
    (lt-false at (block_count form) (omega (arith, follow)))
    ∙ ap (λ r. Ok (r, [], rest)) (kept (not_first at some))
take_parts-is form (suc fuel) at before reference (part ∷ parts) rest is_form follow enough in_range kept =
    let next = at + span_of (left_in_segment form at) part in
    let values = values_of (site_at form at) part in
    part_step form fuel at before reference part
    (string_from form reference next parts) rest is_form follow.0 in_range kept follow.1.0
    (is_option_of (site_at form at) part follow.1.0)
    ∙ ap (with_values values) (take_parts-is form fuel next reference reference parts rest is_form follow.1.1
    (omega arith) in_range (λ later. refl))

true_false : {A : Type 0} → true ≡ false → A
true_false same = cc

take_given : (first : Bool) (bits before named : ℕ) (rest : List ℕ) → named ≤ greatest bits →
    take_reference first bits before ((if first then number_bits bits named else []) ++ rest) ≡ Ok
    ((if first then named else before), rest)
take_given true bits before named rest in_range =
    take_reference-is true bits before named rest in_range (λ never. absurd (true_false never))
take_given false bits before named rest in_range = refl

take_parts-fails : (form : Form) (fuel at before reference : ℕ) (parts : List Part) (end : ℕ) (rest : List ℕ)
    (cause : Cause) → IsForm form → Follow form at parts end →
    end < block_count form → length parts < fuel → reference ≤ greatest form.bits
    → ((at == 0) ≡ false → before ≡ reference) →
    PartFails (site_at form end) rest cause
    → take_parts form fuel at before (string_from form reference at parts ++ rest) ≡ Err cause
take_parts-fails form zero at before reference parts end rest cause is_form follow inside enough in_range kept
    fails = absurd (omega arith)
take_parts-fails form
    (suc fuel) at before reference [] end rest cause is_form follow inside enough in_range kept fails =
    let go = take_parts form fuel in
    let opened : take_parts form (suc fuel) at before rest ≡ chain (take_option form.bits rest)
    (after_option form go at before) =
    ap (λ b. gate b before rest (chain (take_option form.bits rest) (after_option form go at before)))
    (lt-true at (block_count form) (omega (arith, follow))) in
    let here : PartFails (site_at form at) rest cause =
    subst (λ (k : ℕ). PartFails (site_at form k) rest cause) (sym follow) fails in
    elim here [
      | inl none ↦ opened ∙ ap (λ x. chain x (after_option form go at before))
          (take_option-ends form.bits rest none.0) ∙ ap Err (sym none.1)
      | inr other ↦ elim other [
        | inl short ↦
            let option = short.0 in
            let tail = short.1 in
            opened ∙ ap (λ l. chain (take_option form.bits l) (after_option form go at before)) short.4
            ∙ ap (λ x. chain x (after_option form go at before)) (take_option-is form.bits option tail short.2)
            ∙ ap (λ first. chain (take_reference first form.bits before tail)
            (after_reference form go at option)) short.3
            ∙ ap (λ x. chain x (after_reference form go at option)) (take_number-ends form.bits tail short.5)
            ∙ ap Err (sym short.6)
        | inr body ↦
            let option = body.0 in
            let named = body.1 in
            let tail = body.2 in
            let first = at == 0 in
            let number = if first then number_bits form.bits named else [] in
            let given = if first then named else before in
            opened ∙ ap (λ l. chain (take_option form.bits l) (after_option form go at before))
            (body.5 ∙ append_assoc (identifier form.bits option) number tail)
            ∙ ap (λ x. chain x (after_option form go at before))
            (take_option-is form.bits option (number ++ tail) body.3)
            ∙ ap (λ x. chain x (after_reference form go at option))
            (take_given first form.bits before named tail body.4)
            ∙ ap (λ x. chain x (after_body go at given))
            (take_body-fails (site_at form at) option tail cause body.6)
      ]
    ]
take_parts-fails form (suc fuel) at before reference
    (part ∷ parts) end rest cause is_form follow inside enough in_range kept fails =
    let next = at + span_of (left_in_segment form at) part in
    let values = values_of (site_at form at) part in
    part_step form fuel at before reference part
    (string_from form reference next parts) rest is_form follow.0 in_range kept follow.1.0
    (is_option_of (site_at form at) part follow.1.0)
    ∙ ap (with_values values)
    (take_parts-fails form fuel next reference reference parts end rest cause is_form follow.1.1 inside
    (omega arith) in_range (λ later. refl) fails)

-- ---- lines

abbrev take_line : Form → List ℕ → Body
take_line form string = take_parts form (suc (block_count form)) 0 0 string

abbrev samples_of : Form → ℕ → List ℕ → List ℕ
samples_of form reference values = take form.columns (reference ∷ samples_from (greatest form.bits) reference values)

-- the mapped values of a line, its samples, and its string
take_line-is : (form : Form) (reference : ℕ) (parts : List Part) (rest : List ℕ) → IsForm form
    → reference ≤ greatest form.bits → Follow form 0 parts (block_count form) →
    take_line form (string_from form reference 0 parts ++ rest) ≡ Ok (reference, values_from form 0 parts, rest)
take_line-is form reference parts rest is_form in_range follow =
    take_parts-is form (suc (block_count form)) 0 0 reference parts rest is_form follow
    (omega (arith, Follow-length form 0 parts (block_count form) follow)) in_range (λ never. absurd (true_false never))

line_is : (form : Form) (samples string rest : List ℕ) → IsForm form → (line : IsLine form samples string) →
    (take_line form (string ++ rest) ≡ Ok (line.reference, line.values, rest))
    × (samples ≡ samples_of form line.reference line.values)
line_is form samples string rest is_form line = (
  ap (λ l. take_line form (l ++ rest)) line.codes.is_string
      ∙ take_line-is form line.reference line.codes.parts rest is_form line.in_range line.codes.follow
      ∙ ap (λ l. Ok (line.reference, l, rest)) (sym line.codes.are_values),
  line.are_samples ∙ ap (λ l. take form.columns (line.reference ∷ l))
      (HaveValues-one (greatest form.bits) line.reference line.values line.others line.in_range line.have_values),
)

line_fails-is : (form : Form) (string : List ℕ) (cause : Cause) → IsForm form → LineFails form string cause
    → take_line form string ≡ Err cause
line_fails-is form string cause is_form fails =
    ap (take_line form) fails.is_string
    ∙ take_parts-fails form
    (suc (block_count form)) 0 0 fails.reference fails.parts fails.at fails.rest cause is_form fails.follow fails.before
    (omega (arith, Follow-length form 0 fails.parts fails.at fails.follow, fails.before)) fails.in_range
    (λ never. absurd (true_false never)) fails.fails

abbrev Lines : Type 0
Lines = Result (List ℕ × List ℕ) RiceFault

abbrev in_front : List ℕ → Lines → Lines
in_front samples (Ok x) = Ok (samples ++ x.0, x.1)
in_front samples (Err fault) = Err fault

abbrev lines_after : Form → ℕ → (List ℕ → Lines) → Body → Lines
lines_after form line go (Ok x) = in_front (samples_of form x.0 x.1) (go x.2)
lines_after form line go (Err cause) = Err (fault_in line cause)

abbrev take_lines : Form → ℕ → ℕ → List ℕ → Lines
take_lines form line zero string = Ok ([], string)
take_lines form line (suc n) string = lines_after form line (take_lines form (line + 1) n) (take_line form string)

lines_are : (form : Form) (line n : ℕ) (samples coding rest : List ℕ) → IsForm form
    → AreLines form n samples coding → take_lines form line n (coding ++ rest) ≡ Ok (samples, rest)
lines_are form line zero samples coding rest is_form are = ap (λ l. Ok ([], l ++ rest)) are.1
    ∙ ap (λ l. Ok (l, rest)) (sym are.0)
lines_are form line (suc n) samples coding rest is_form are =
    let first = are.line in
    let others = are.others in
    let front = are.front in
    let back = are.back in
    let go = take_lines form (line + 1) n in
    let one = line_is form first front (back ++ rest) is_form are.is_line in
    ap (λ l. take_lines form line (suc n) (l ++ rest)) are.is_string
    ∙ ap (λ l. lines_after form line go (take_line form l)) (append_assoc front back rest)
    ∙ ap (lines_after form line go) one.0 ∙ ap (λ l. in_front l (go (back ++ rest))) (sym one.1)
    ∙ ap (in_front first) (lines_are form (line + 1) n others back rest is_form are.are_others)
    ∙ ap (λ l. Ok (l, rest)) (sym are.are_samples)

lines_fail : (form : Form) (line n before : ℕ) (samples coding rest : List ℕ) (cause : Cause) → IsForm form
    → before < n → AreLines form before samples coding → LineFails form rest cause →
    take_lines form line n (coding ++ rest) ≡ Err (fault_in (line + before) cause)
lines_fail form line zero before samples coding rest cause is_form less are fails = absurd (omega arith)
lines_fail form line (suc n) zero samples coding rest cause is_form less are fails =
    ap (λ l. take_lines form line (suc n) (l ++ rest)) are.1
    ∙ ap (lines_after form line (take_lines form (line + 1) n)) (line_fails-is form rest cause is_form fails)
    ∙ ap (λ k. Err (fault_in k cause)) (omega arith)
lines_fail form line (suc n) (suc before) samples coding rest cause is_form less are fails =
    let first = are.line in
    let others = are.others in
    let front = are.front in
    let back = are.back in
    let go = take_lines form (line + 1) n in
    let one = line_is form first front (back ++ rest) is_form are.is_line in
    let place : line + 1 + before ≡ line + suc before = omega arith in
    ap (λ l. take_lines form line (suc n) (l ++ rest)) are.is_string
    ∙ ap (λ l. lines_after form line go (take_line form l)) (append_assoc front back rest)
    ∙ ap (lines_after form line go) one.0 ∙ ap (λ l. in_front l (go (back ++ rest))) (sym one.1)
    ∙ ap (in_front first) (lines_fail form (line + 1) n before others back rest cause is_form
    (omega arith) are.are_others fails) ∙ ap (λ k. Err (fault_in k cause)) place

-- ---- the laws

abbrev samples_in : Lines → List ℕ
samples_in (Ok x) = x.0
samples_in (Err fault) = []

abbrev rest_in : Lines → List ℕ
rest_in (Ok x) = x.1
rest_in (Err fault) = []

abbrev fault_read : Lines → RiceFault
fault_read (Ok x) = NoMemory
fault_read (Err fault) = fault

ok_or_err : (lines : Lines) (x : List ℕ × List ℕ) (fault : RiceFault) → lines ≡ Ok x → lines ≡ Err fault → ⊥
ok_or_err lines x fault is isnt = cc

fault_is : (form : Form) (n : ℕ) (string : List ℕ) (fault : RiceFault) → IsForm form
    → LinesFail form n string fault → take_lines form 0 n string ≡ Err fault
fault_is form n string fault is_form fails =
    ap (take_lines form 0 n) fails.is_string
    ∙ lines_fail form 0 n fails.line fails.samples fails.coding fails.rest fails.cause is_form fails.before
    fails.lines fails.fails
    ∙ ap (λ k. Err (fault_in k fails.cause)) (zero-add fails.line) ∙ ap Err (sym fails.is_fault)

pub lines_are_one : LinesAreOne
lines_are_one form is_form n samples others coding another rest more are also same =
    let both : take_lines form 0 n (coding ++ rest) ≡ Ok (others, more) = ap (take_lines form 0 n) same
    ∙ lines_are form 0 n others another more is_form also in
    let one = lines_are form 0 n samples coding rest is_form are in
    let rests : rest ≡ more = sym (ap rest_in one) ∙ ap rest_in both in (
      sym (ap samples_in one) ∙ ap samples_in both,
      append_cancel_right coding another more
          (ap (λ l. coding ++ l) (sym rests) ∙ same),
    )

pub lines_have_no_fault : LinesHaveNoFault
lines_have_no_fault form is_form n samples string fault begins fails =
    let read : take_lines form 0 n string ≡ Ok (samples, begins.rest) = ap (take_lines form 0 n) begins.is_string
    ∙ lines_are form 0 n samples begins.coding begins.rest is_form begins.lines in
    ok_or_err (take_lines form 0 n string) (samples, begins.rest) fault read
    (fault_is form n string fault is_form fails)

pub faults_are_one : FaultsAreOne
faults_are_one form is_form n string fault other fails also =
    sym (ap fault_read (fault_is form n string fault is_form fails))
    ∙ ap fault_read (fault_is form n string other is_form also)
