use Rattle.std.proofs.Common.{◌<◌, ap, ◌∙◌, arith, rules}
use Rattle.std.specs.Int.Bits.{bit_xor}
use Rattle.lr_gf.specs.Field.{times, value_of}
use Rattle.lr_gf.proofs.Powers.{horner-more}
use Rattle.lr_gf.proofs.element.value.Goals as goal

pub loop-coefficient-init : goal.loop-coefficient-init
unfolding value_of
loop-coefficient-init c = search rules

pub loop-coefficient-preserved : goal.loop-coefficient-preserved
loop-coefficient-preserved c =
    let small : c.coefficient-item.result < 256 = omega arith in
    ap (λ z. bit_xor z c.coefficient.inside.0) (c.sum.view_is ∙ c.mul.ensures)
    ∙ ap (bit_xor (times c.loop-coefficient.sum c.args.at)) c.coefficient.view_is
    ∙ horner-more c.args.coefficients.now c.loop-coefficient.coefficient-index c.coefficient-item.result
    c.loop-coefficient.sum c.args.at
    c.loop-coefficient-test.true c.coefficient-item.is c.loop-coefficient.invariant small
