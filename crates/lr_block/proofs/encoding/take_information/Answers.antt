use Rattle.std.proofs.Common.{arith, rules}
use Rattle.lr_block.proofs.Interleaving.{every_fourth_by_all}
use Rattle.lr_block.proofs.encoding.take_information.Goals as goal
use Rattle.lr_rs.specs.declared.sizes.TheConstants.{INFORMATION_BYTES}

pub returns : goal.returns
returns c =
    every_fourth_by_all INFORMATION_BYTES c.args.frame.now c.loop-i.information c.args.k c.loop-i.invariant.long
    (λ j h. c.loop-i.invariant.done j (omega arith))

pub loop-i-preserved : goal.loop-i-preserved
loop-i-preserved c = search (rules, arith)
