use Rattle.std.proofs.Common.{length, refl, arith}
use Rattle.std.proofs.lemmas.Nat.{pow_pos}
use Rattle.lr_rice.specs.CodedLines.{Form, form_of}
use Rattle.lr_rice.proofs.LineLemmas.{begun, block_count-pos, goes_on, line_read, no_next, part_put}
use Rattle.lr_rice.proofs.line.decode_line.Goals as goal

pub loop-decoded-init : goal.loop-decoded-init
loop-decoded-init c =
    let form : Form = form_of c.args.bits c.args.block (length c.args.out.now) in
    begun form c.in-Ok-bits.reference c.args.reader.now c.read_identifier.new.reader c.bits.new.self
    c.args.out.now c.in-Ok.option
    (block_count-pos form (omega arith) c.requires.some) c.in-Ok.ensures.option
    (omega (arith, c.in-Ok-bits.ensures.fits, pow_pos c.args.bits)) c.in-Ok.ensures.ok c.in-Ok-bits.ensures.ok

pub returns-then-at-blocks-clause-ok : goal.returns-then-at-blocks-clause-ok
returns-then-at-blocks-clause-ok c =
    let done = part_put c.loop-decoded.invariant c.in-Ok-part.ensures.ok c.min.ensures (omega arith) refl
    c.loop-decoded.auto.out in
    line_read done (omega arith) refl c.if-at-blocks.true

pub returns-in_default-read_identifier-clause-err : goal.returns-in_default-read_identifier-clause-err
returns-in_default-read_identifier-clause-err c =
    let done = part_put c.loop-decoded.invariant c.in-Ok-part.ensures.ok c.min.ensures (omega arith) refl
    c.loop-decoded.auto.out in
    no_next done c.if-at-blocks.false c.in_default-read_identifier.ensures.err

pub loop-decoded-preserved : goal.loop-decoded-preserved
loop-decoded-preserved c =
    let done = part_put c.loop-decoded.invariant c.in-Ok-part.ensures.ok c.min.ensures (omega arith) refl
    c.loop-decoded.auto.out in
    goes_on done c.if-at-blocks.false c.in-Ok-read_identifier.ensures.option c.in-Ok-read_identifier.ensures.ok
