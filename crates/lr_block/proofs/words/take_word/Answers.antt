use Rattle.std.proofs.Common.{arith, rules}
use Rattle.lr_block.proofs.Interleaving.{every_fourth_by_all}
use Rattle.lr_block.proofs.words.take_word.Goals as goal
use Rattle.lr_rs.specs.declared.sizes.TheConstants.{WORD_BYTES}

pub returns : goal.returns
returns c =
    every_fourth_by_all WORD_BYTES c.args.block.now c.loop-i.word c.args.k c.loop-i.invariant.long
    (λ j h. c.loop-i.invariant.done j (omega arith))

pub loop-i-preserved : goal.loop-i-preserved
loop-i-preserved c = search (rules, arith)
