use Rattle.std.proofs.Common.{◌∙◌, ap, arith}
use Rattle.lr_block.specs.Blocks.{information_of}
use Rattle.lr_block.proofs.Interleaving.{information_of-take}
use Rattle.lr_block.proofs.frames.information.Goals as goal

pub returns-clause-words : goal.returns-clause-words
returns-clause-words c k small =
    ap (λ frame. information_of frame k) c.copy_from_slice.ensures.after
    ∙ information_of-take c.args.block.now k small (omega (arith, c.told-block))

pub returns-clause-frame : goal.returns-clause-frame
returns-clause-frame c = c.copy_from_slice.ensures.after
