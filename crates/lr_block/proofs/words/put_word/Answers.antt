use Rattle.std.proofs.Common.{◌∙◌, arith, sym, rules}
use Rattle.lr_block.proofs.Interleaving.{every_fourth_by_all, get_or-every_fourth, length-every_fourth}
use Rattle.lr_block.proofs.words.put_word.Goals as goal
use Rattle.lr_rs.specs.declared.sizes.TheConstants.{WORD_BYTES}

pub returns-clause-put : goal.returns-clause-put
returns-clause-put c =
    sym (every_fourth_by_all WORD_BYTES c.loop-i.block c.args.word.now c.args.k c.told-word
    (λ j h. sym (c.loop-i.invariant.done j (omega arith))))

pub returns-clause-kept : goal.returns-clause-kept
returns-clause-kept c m small other =
    sym (every_fourth_by_all WORD_BYTES c.loop-i.block _ m (length-every_fourth WORD_BYTES c.args.block.now m)
    (λ j h. get_or-every_fourth WORD_BYTES c.args.block.now m j h ∙ sym (c.loop-i.invariant.kept m j small other)))

pub loop-i-preserved : goal.loop-i-preserved
loop-i-preserved c = search (rules, arith)
