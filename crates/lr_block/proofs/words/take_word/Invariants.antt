use Rattle.std.proofs.Common.{◌≡◌, ℕ, ◌+◌, ◌*◌, ◌<◌, get_or, length}
use Rattle.lr_block.proofs.words.take_word.Given as goal
use Rattle.lr_rs.specs.declared.sizes.TheConstants.{WORD_BYTES}

abbrev pub invariant-loop-i : goal.invariant-loop-i
invariant-loop-i l = record {
  long : length l.word ≡ WORD_BYTES;
  done : (j : ℕ) → j < l.i → get_or l.word j 0 ≡ get_or l.block (4 * j + l.k) 0;
}
