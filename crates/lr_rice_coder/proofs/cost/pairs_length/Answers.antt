use Rattle.std.proofs.Common.{◌+◌, ◌*◌, length, take, get_or, ap, arith, length-append}
use Rattle.lr_bits.specs.Bits.{zeros_and_one}
use Rattle.lr_rice.specs.CodedLines.{pair_number, pairs_string}
use Rattle.lr_rice_coder.proofs.CostLemmas.{pairs-next, length-zeros_and_one}
use Rattle.lr_rice_coder.proofs.cost.pairs_length.Goals as goal

pub loop-i-preserved : goal.loop-i-preserved
loop-i-preserved c =
    let places = c.args.places.now in
    let i = c.loop-i.i in
    let number = pair_number (get_or places (2 * i) 0) (get_or places (2 * i + 1) 0) in
    let front = pairs_string (take (2 * i) places) in (
      omega (
        arith,
        ap length (pairs-next places i (omega arith)),
        length-append front (zeros_and_one number),
        length-zeros_and_one number,
        c.number_of.ensures.value,
        c.loop-i.invariant.0,
      ),
      omega (arith, c.number_of.ensures.fits, c.loop-i.invariant.1),
    )
