use Rattle.std.proofs.Common.{◌∙◌, ap, arith}
use Rattle.std.specs.Int.Bits.{bit_xor}
use Rattle.std.proofs.lemmas.List.{get_or_default}
use Rattle.lr_rs.proofs.Correcting.{correct_more}
use Rattle.lr_rs.proofs.correction.correct.Goals as goal

pub loop-l-preserved : goal.loop-l-preserved
loop-l-preserved c =
    correct_more c.args.word.now c.loop-l.word c.args.places.now c.args.errors.now c.args.count c.loop-l.l
    c.to_dual.result
    c.loop-l.invariant.2 c.loop-l-test.true (c.requires.places c.loop-l.l c.loop-l-test.true) c.requires.different
    (c.to_dual.ensures.back ∙ ap (λ z. bit_xor z c.here.inside.0) c.from_dual.ensures.from
    ∙ ap (bit_xor _) (c.here.view_is
    ∙ get_or_default c.args.errors.now c.loop-l.l _ 0 (omega (arith, c.type_inv.errors))))
    c.loop-l.invariant.0 c.loop-l.invariant.1
