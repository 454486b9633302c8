use Rattle.std.proofs.Common.{◌∙◌, arith}
use Rattle.std.proofs.lemmas.List.{get_or_default}
use Rattle.lr_rs.proofs.CheckBytes.{check_more}
use Rattle.lr_rs.proofs.encoding.put_check.Goals as goal

pub loop-k-preserved : goal.loop-k-preserved
loop-k-preserved c =
    check_more c.args.word.now c.loop-k.word c.args.check.now c.loop-k.k c.to_dual.result c.loop-k.invariant.3
    c.loop-k-test.true (omega arith)
    (c.to_dual.ensures.back ∙ c.coefficient.view_is
    ∙ get_or_default c.args.check.now c.loop-k.k _ 0 (omega (arith, c.told-check)))
    c.loop-k.invariant.0 c.loop-k.invariant.1 c.loop-k.invariant.2
