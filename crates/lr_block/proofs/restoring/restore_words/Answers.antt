use Rattle.std.proofs.Common.{◌≡◌, rules}
use Rattle.std.proofs.lemmas.Result.{err_from_is_err_and}
use Rattle.lr_block.specs.Blocks.{word_of}
use Rattle.lr_block.proofs.Interleaving.{lost_first, lost_second, lost_third, lost_fourth, four_words}
use Rattle.lr_block.proofs.Interleaving.{restored_by_words, changes_by_words}
use Rattle.lr_block.proofs.restoring.restore_words.Goals as goal

pub returns-in_err-in_first-clause-lost : goal.returns-in_err-in_first-clause-lost
returns-in_err-in_first-clause-lost c =
    let p = err_from_is_err_and c.from_residual.result c.from_residual.ensures.1 in
    rw (p.1, p.2) (lost_first c.args.block.now _ c.in_err-in_first.ensures.named c.in_err-in_first.ensures.lost)

pub returns-in_err-in_second-clause-lost : goal.returns-in_err-in_second-clause-lost
returns-in_err-in_second-clause-lost c =
    let p = err_from_is_err_and c.from_residual-in_err-in_second.result c.from_residual-in_err-in_second.ensures.1 in
    rw (p.1, p.2)
    (lost_second c.args.block.now _ c.in_err-in_second.ensures.named (
      c.restore_word.new.word,
      c.in_ok-in_first.ensures.restored,
    )
    c.in_err-in_second.ensures.lost)

pub returns-in_err-in_third-clause-lost : goal.returns-in_err-in_third-clause-lost
returns-in_err-in_third-clause-lost c =
    let p = err_from_is_err_and c.from_residual-in_err-in_third.result c.from_residual-in_err-in_third.ensures.1 in
    rw (p.1, p.2)
    (lost_third c.args.block.now _ c.in_err-in_third.ensures.named (
      c.restore_word.new.word,
      c.in_ok-in_first.ensures.restored,
    )
    (c.restore_word-2.new.word, c.in_ok-in_second.ensures.restored) c.in_err-in_third.ensures.lost)

pub returns-in_err-in_fourth-clause-lost : goal.returns-in_err-in_fourth-clause-lost
returns-in_err-in_fourth-clause-lost c =
    let p = err_from_is_err_and c.from_residual-in_err-in_fourth.result c.from_residual-in_err-in_fourth.ensures.1 in
    rw (p.1, p.2)
    (lost_fourth c.args.block.now _ c.in_err-in_fourth.ensures.named (
      c.restore_word.new.word,
      c.in_ok-in_first.ensures.restored,
    )
    (c.restore_word-2.new.word, c.in_ok-in_second.ensures.restored) (
      c.restore_word-3.new.word,
      c.in_ok-in_third.ensures.restored,
    )
    c.in_err-in_fourth.ensures.lost)

-- the four words are in the block
put : (c : goal.After-put_word-4)
    → (word_of c.put_word-4.new.block 0 ≡ c.restore_word.new.word)
    × (word_of c.put_word-4.new.block 1 ≡ c.restore_word-2.new.word)
    × (word_of c.put_word-4.new.block 2 ≡ c.restore_word-3.new.word)
    × (word_of c.put_word-4.new.block 3 ≡ c.restore_word-4.new.word)
put c =
    four_words c.put_word.new.block c.put_word-2.new.block c.put_word-3.new.block c.put_word-4.new.block
    c.restore_word.new.word c.restore_word-2.new.word
    c.restore_word-3.new.word c.restore_word-4.new.word c.put_word.ensures.put c.put_word-2.ensures.put
    c.put_word-2.ensures.kept c.put_word-3.ensures.put
    c.put_word-3.ensures.kept c.put_word-4.ensures.put c.put_word-4.ensures.kept

pub returns-clause-restored : goal.returns-clause-restored
returns-clause-restored c =
    restored_by_words c.args.block.now c.put_word-4.new.block c.restore_word.new.word c.restore_word-2.new.word
    c.restore_word-3.new.word c.restore_word-4.new.word
    c.put_word-4.array_long (put c) c.in_ok-in_first.ensures.restored c.in_ok-in_second.ensures.restored
    c.in_ok-in_third.ensures.restored
    c.in_ok-in_fourth.ensures.restored

pub returns-clause-changed : goal.returns-clause-changed
returns-clause-changed c =
    changes_by_words c.args.block.now c.put_word-4.new.block c.restore_word.new.word c.restore_word-2.new.word
    c.restore_word-3.new.word c.restore_word-4.new.word
    c.in_ok-in_first.in_first c.in_ok-in_second.in_second c.in_ok-in_third.in_third c.in_ok-in_fourth.in_fourth
    (put c) c.in_ok-in_first.ensures.changed
    c.in_ok-in_second.ensures.changed c.in_ok-in_third.ensures.changed c.in_ok-in_fourth.ensures.changed

pub returns-in_err-in_first-clause-same : goal.returns-in_err-in_first-clause-same
returns-in_err-in_first-clause-same c = search rules

pub returns-in_err-in_second-clause-same : goal.returns-in_err-in_second-clause-same
returns-in_err-in_second-clause-same c = search rules

pub returns-in_err-in_third-clause-same : goal.returns-in_err-in_third-clause-same
returns-in_err-in_third-clause-same c = search rules

pub returns-in_err-in_fourth-clause-same : goal.returns-in_err-in_fourth-clause-same
returns-in_err-in_fourth-clause-same c = search rules
