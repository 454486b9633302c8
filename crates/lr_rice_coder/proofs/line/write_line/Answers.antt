use Rattle.std.proofs.Common.{◌+◌, ◌++◌, ap, sym, ◌∙◌, arith, nat_eq}
use Rattle.std.proofs.lemmas.List.{append_assoc, append-nil}
use Rattle.lr_rice.specs.CodedLines.{part_string}
use Rattle.lr_rice_coder.specs.Shortest.{next_part}
use Rattle.lr_rice_coder.specs.Writing.{form_in, string_after}
use Rattle.lr_rice_coder.proofs.CodingLemmas.{string-end, string-next}
use Rattle.lr_rice_coder.proofs.line.write_line.Goals as goal

pub loop-at-preserved : goal.loop-at-preserved
loop-at-preserved c =
    let line = c.args.line.now in
    let form = form_in line in
    let at = c.loop-at.at in
    let span = c.in_ok-at.field-0 in
    let part = part_string line.bits (nat_eq at 0) line.reference (next_part form line.places.now at) in
    let next = string-next form line.places.now line.reference at span c.requires.places
    (omega (arith, c.loop-at-test.true, c.block_count-blocks.ensures)) c.in_ok-at.ensures.spans in
    ap (λ l. l ++ string_after line (at + span)) c.in_ok-at.ensures.whole
    ∙ append_assoc c.loop-at.writer part (string_after line (at + span))
    ∙ ap (λ l. c.loop-at.writer ++ l) (sym next) ∙ c.loop-at.invariant

pub overflow_add-at : goal.overflow_add-at
overflow_add-at c =
    omega (arith, c.in_ok-at.ensures.inside, c.loop-at-test.true, c.block_count-blocks.ensures, c.requires.few)

pub returns : goal.returns
returns c =
    let line = c.args.line.now in
    let end = string-end (form_in line) line.places.now line.reference c.loop-at.at
    (omega (arith, c.loop-at-test.false, c.block_count-blocks.ensures)) in
    sym (append-nil c.loop-at.writer) ∙ ap (λ l. c.loop-at.writer ++ l) (sym end) ∙ c.loop-at.invariant
