use Rattle.std.proofs.Common.{ap, ◌∙◌, length, subst, take, drop, ◌-◌}
use Rattle.std.proofs.lemmas.List.{take_rest}
use Rattle.lr_headers.specs.Tiling.{HasHeaderFaultOrMemory, IsHeaderOf}
use Rattle.lr_image.specs.Shapes.{shape_of}
use Rattle.lr_mend.specs.Openings.{opening_by, opening_of}
use Rattle.lr_mend.proofs.Fillers.{opening_of-ok, opening_of-err, opening_of-short, fault_of_header, unless_memory}
use Rattle.lr_mend.proofs.opening.opening_of.Goals as goal

pub returns-then-body-lt-TRANSPORT_HEADER_BYTES-clause-value :
    goal.returns-then-body-lt-TRANSPORT_HEADER_BYTES-clause-value
returns-then-body-lt-TRANSPORT_HEADER_BYTES-clause-value c =
    opening_of-short c.args.body.now c.if-body-lt-TRANSPORT_HEADER_BYTES.true

pub returns-in-Ok-clause-value : goal.returns-in-Ok-clause-value
returns-in-Ok-clause-value c =
    let proper = take_rest c.args.body.now 10 in
    let is = subst (λ proper. IsHeaderOf proper c.in-Ok.records) proper c.in-Ok.ensures.ok in
    let cut = take_rest (take (length c.args.body.now - 10) (drop 10 c.args.body.now)) c.header_length.result in
    c.opening_by.ensures.value
    ∙ ap (opening_by (shape_of c.in-Ok.records))
    (cut ∙ (λ i. drop (c.header_length.ensures i) (proper i)))
    ∙ opening_of-ok c.args.body.now c.in-Ok.records is

pub returns-in-Err-clause-value : goal.returns-in-Err-clause-value
returns-in-Err-clause-value c =
    let proper = drop 10 c.args.body.now in
    let fault = c.in-Err.fault in
    let h = subst (λ proper. HasHeaderFaultOrMemory proper fault) (take_rest c.args.body.now 10) c.in-Err.ensures.err in
    unless_memory c.unless_memory.result (opening_of c.args.body.now) c.unless_memory.ensures.value
    c.unless_memory.ensures.other
    (λ other. opening_of-err c.args.body.now fault (fault_of_header proper fault other h))
