use Rattle.std.proofs.Common.{◌∙◌, sym}
use Rattle.lr_redecode.proofs.Rounds.{same_four, with_block_is}
use Rattle.lr_redecode.proofs.known.known_with.Goals as goal

pub returns : goal.returns
returns c =
    same_four _ _ _ _ _ _ _ _ c.known_or_restored.ensures c.known_or_restored-2.ensures c.known_or_restored-3.ensures
    c.known_or_restored-4.ensures
    ∙ sym (with_block_is c.args.known.now c.args.block.now)
