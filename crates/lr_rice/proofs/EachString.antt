-- Each string of bits begins with lines, or has a first fault.
use Rattle.std.proofs.Common.{◌≡◌, ◌⊎◌, ℕ, zero, suc, ◌+◌, ◌<◌, ◌≤◌, true, List, []}
use Rattle.std.proofs.Common.{◌∷◌, ◌++◌, refl, sym, ap, ◌∙◌, arith, inl, inr}
use Rattle.std.specs.Prelude.{◌==◌}
use Rattle.std.proofs.lemmas.Bool.{cases_lt}
use Rattle.std.proofs.lemmas.List.{append_assoc}
use Rattle.lr_rice.specs.declared.fault.Cause.{Cause}
use Rattle.lr_rice.specs.declared.fault.RiceFault.{RiceFault}
use Rattle.lr_rice.specs.CodedLines.{BeginsWithLines, Follow, Form, IsLine, IsPart, Part}
use Rattle.lr_rice.specs.CodedLines.{block_count, greatest}
use Rattle.lr_rice.specs.CodedLines.{left_in_segment, part_string}
use Rattle.lr_rice.specs.CodedLines.{site_at, span_of, string_from, values_from}
use Rattle.lr_rice.specs.LineFaults.{LineFails, LinesFail}
use Rattle.lr_rice.specs.LineFaults.{PartFails, fault_in}
use Rattle.lr_rice.specs.Laws.{IsForm, LinesAreRead}
use Rattle.lr_rice.specs.Samples.{samples_from}
use Rattle.lr_rice.proofs.LineLemmas.{block_count-pos, not_first, span-inside, span-pos, values_from-small}
use Rattle.lr_rice.proofs.SampleLemmas.{HaveValues-samples_from}
use Rattle.lr_rice.proofs.EachItem.{AreBits, bits_after, bits_from}
use Rattle.lr_rice.proofs.EachPart.{first_part, later_part}

-- the rest of the parts of a line from a block on
record WholeFrom (form : Form) (reference at : ℕ) (string : List ℕ) : Type 0 where
  parts : List Part
  rest : List ℕ
  follow : Follow form at parts (block_count form)
  is_string : string ≡ string_from form reference at parts ++ rest

-- some of them, but not the next one
record BrokenFrom (form : Form) (reference at : ℕ) (string : List ℕ) : Type 0 where
  parts : List Part
  end : ℕ
  follow : Follow form at parts end
  before : end < block_count form
  rest : List ℕ
  is_string : string ≡ string_from form reference at parts ++ rest
  cause : Cause
  fails : PartFails (site_at form end) rest cause

abbrev From : Form → ℕ → ℕ → List ℕ → Type 0
From form reference at string = WholeFrom form reference at string ⊎ BrokenFrom form reference at string

module _ (form : Form) (reference at : ℕ) (before : at < block_count form) (part : Part)
    (is : IsPart (site_at form at) part) (string later : List ℕ)
    (same : string ≡ part_string form.bits (at == 0) reference part ++ later) where
  part_more : From form reference (at + span_of (left_in_segment form at) part) later → From form reference at string
  part_more (inl whole) = inl (record {
    parts = part ∷ whole.parts;
    rest = whole.rest;
    follow = (before, (is, whole.follow));
    is_string =
        same ∙ ap (λ l. part_string form.bits (at == 0) reference part ++ l) whole.is_string
        ∙ sym (append_assoc (part_string form.bits (at == 0) reference part)
        (string_from form reference (at + span_of (left_in_segment form at) part) whole.parts) whole.rest);
  })
  part_more (inr broken) = inr (record {
    parts = part ∷ broken.parts;
    end = broken.end;
    follow = (before, (is, broken.follow));
    before = broken.before;
    rest = broken.rest;
    is_string =
        same ∙ ap (λ l. part_string form.bits (at == 0) reference part ++ l) broken.is_string
        ∙ sym (append_assoc (part_string form.bits (at == 0) reference part)
        (string_from form reference (at + span_of (left_in_segment form at) part) broken.parts) broken.rest);
    cause = broken.cause;
    fails = broken.fails;
  })

module _ (form : Form) (is_form : IsForm form) where
  wide : 1 ≤ form.block
  wide = omega (arith, is_form.least_block)

  parts_from : (fuel reference at : ℕ) (string : List ℕ) → reference ≤ greatest form.bits → 1 ≤ at
      → at ≤ block_count form → block_count form ≤ at + fuel → AreBits string → From form reference at string
  parts_from zero reference at string in_range some inside enough are =
      inl (record { parts = []; rest = string; follow = omega (arith, inside, enough); is_string = refl })
  parts_from (suc fuel) reference at string in_range some inside enough are =
      elim (cases_lt at (block_count form)) [
        | inr past ↦
            inl (record { parts = []; rest = string; follow = omega (arith, inside, past); is_string = refl })
        | inl before ↦
            elim (later_part (site_at form at) reference string wide is_form.even in_range (not_first at some) are) [
              | inr fails ↦ inr (record {
                parts = [];
                end = at;
                follow = refl;
                before = before;
                rest = string;
                is_string = refl;
                cause = fails.0;
                fails = fails.1;
              })
              | inl there ↦
                  part_more form reference at before there.0 there.2 string there.1 there.3
                  (parts_from fuel reference (at + span_of (left_in_segment form at) there.0) there.1 in_range
                  (omega (arith, some)) (span-inside form at there.0 before there.2)
                  (omega (arith, enough, span-pos form at there.0 before))
                  (bits_after string (part_string form.bits (at == 0) reference there.0) there.1 there.3 are))
            ]
      ]

  -- a line, or why there is none
  abbrev Line : List ℕ → Type 0
  Line string =
      ((samples : List ℕ) × (front : List ℕ) × (rest : List ℕ) × IsLine form samples front × (string ≡ front ++ rest))
      ⊎ ((cause : Cause) × LineFails form string cause)

  line_of : (reference : ℕ) (string : List ℕ) → reference ≤ greatest form.bits → From form reference 0 string
      → Line string
  line_of reference string in_range (inl whole) =
      let values = values_from form 0 whole.parts in
      let others = samples_from (greatest form.bits) reference values in
      inl (
        _,
        string_from form reference 0 whole.parts,
        whole.rest,
        record {
          reference = reference;
          in_range = in_range;
          values = values;
          codes = record { parts = whole.parts; follow = whole.follow; are_values = refl; is_string = refl };
          others = others;
          have_values = HaveValues-samples_from (greatest form.bits) reference values in_range
              (values_from-small form 0 whole.parts (block_count form) whole.follow);
          are_samples = refl;
        },
        whole.is_string,
      )
  line_of reference string in_range (inr broken) = inr (
    broken.cause,
    record {
      reference = reference;
      in_range = in_range;
      parts = broken.parts;
      at = broken.end;
      follow = broken.follow;
      before = broken.before;
      rest = broken.rest;
      is_string = broken.is_string;
      fails = broken.fails;
    },
  )

  some_blocks : 0 < block_count form
  some_blocks = block_count-pos form wide is_form.some

  line : (string : List ℕ) → AreBits string → Line string
  line string are =
      elim (first_part (site_at form 0) string wide is_form.even refl are) [
        | inr fails ↦ inr (
          fails.0,
          record {
            reference = 0;
            in_range = omega arith;
            parts = [];
            at = 0;
            follow = refl;
            before = some_blocks;
            rest = string;
            is_string = refl;
            fails = fails.1;
          },
        )
        | inl there ↦
            line_of there.0 string there.1
            (part_more form there.0 0 some_blocks there.2 there.4 string there.3 there.5
            (parts_from (block_count form) there.0 (0 + span_of (left_in_segment form 0) there.2) there.3 there.1
            (omega (arith, span-pos form 0 there.2 some_blocks)) (span-inside form 0 there.2 some_blocks there.4)
            (omega arith)
            (bits_after string (part_string form.bits true there.0 there.2) there.3 there.5 are)))
      ]

  -- lines, or why there are none
  abbrev Lines : ℕ → List ℕ → Type 0
  Lines n string =
      ((samples : List ℕ) × BeginsWithLines form n samples string)
      ⊎ ((fault : RiceFault) × LinesFail form n string fault)

  line_more : (n : ℕ) (samples front string later : List ℕ) → IsLine form samples front → string ≡ front ++ later
      → Lines n later → Lines (suc n) string
  line_more n samples front string later is same (inl there) = inl (
    samples ++ there.0,
    record {
      coding = front ++ there.1.coding;
      rest = there.1.rest;
      lines = record {
        line = samples;
        front = front;
        is_line = is;
        others = there.0;
        back = there.1.coding;
        are_others = there.1.lines;
        are_samples = refl;
        is_string = refl;
      };
      is_string = same ∙ ap (λ l. front ++ l) there.1.is_string
          ∙ sym (append_assoc front there.1.coding there.1.rest);
    },
  )
  line_more n samples front string later is same (inr there) = inr (
    fault_in (suc there.1.line) there.1.cause,
    record {
      line = suc there.1.line;
      before = omega (arith, there.1.before);
      samples = samples ++ there.1.samples;
      coding = front ++ there.1.coding;
      rest = there.1.rest;
      lines = record {
        line = samples;
        front = front;
        is_line = is;
        others = there.1.samples;
        back = there.1.coding;
        are_others = there.1.lines;
        are_samples = refl;
        is_string = refl;
      };
      is_string = same ∙ ap (λ l. front ++ l) there.1.is_string
          ∙ sym (append_assoc front there.1.coding there.1.rest);
      cause = there.1.cause;
      fails = there.1.fails;
      is_fault = refl;
    },
  )

  lines : (n : ℕ) (string : List ℕ) → AreBits string → Lines n string
  lines zero string are =
      inl ([], record { coding = []; rest = string; lines = (refl, refl); is_string = refl })
  lines (suc n) string are = elim (line string are) [
    | inr fails ↦ inr (
      fault_in 0 fails.0,
      record {
        line = 0;
        before = omega arith;
        samples = [];
        coding = [];
        rest = string;
        lines = (refl, refl);
        is_string = refl;
        cause = fails.0;
        fails = fails.1;
        is_fault = refl;
      },
    )
    | inl there ↦
        line_more n there.0 there.1 string there.2 there.3 there.4
        (lines n there.2 (bits_after string there.1 there.2 there.4 are))
  ]

pub lines_are_read : LinesAreRead
lines_are_read form is n string are = lines form is n string (bits_from string are)
