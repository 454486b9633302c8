use Rattle.std.proofs.Common.{arith, rules}
use Rattle.lr_block.proofs.Sequence.{randomised_by_all}
use Rattle.lr_block.proofs.randomiser.derandomise.Goals as goal

pub returns : goal.returns
returns c = randomised_by_all c.args.block.now c.loop-i.block c.loop-i.invariant.long
    (λ i h. c.loop-i.invariant.done i (omega arith))

pub loop-i-preserved : goal.loop-i-preserved
loop-i-preserved c = search (rules, arith)
