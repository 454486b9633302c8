use Rattle.std.proofs.Common.{sym}
use Rattle.lr_block.proofs.Interleaving.{changes_of_itself, restored_itself}
use Rattle.lr_block.proofs.restoring.restore_block.Goals as goal

pub returns-then-are_codewords-clause-restored : goal.returns-then-are_codewords-clause-restored
returns-then-are_codewords-clause-restored c =
    restored_itself c.args.block.now c.told-block c.fits-block (c.are_codewords.ensures.0 (cc))

pub returns-then-are_codewords-clause-changed : goal.returns-then-are_codewords-clause-changed
returns-then-are_codewords-clause-changed c = sym (changes_of_itself c.args.block.now)
