use Rattle.std.proofs.Common.{◌≡◌, ◌≢◌, ℕ, ◌+◌, ◌*◌, ◌<◌, get_or, length}
use Rattle.lr_block.proofs.words.put_word.Given as goal
use Rattle.lr_bits.specs.declared.sizes.TheConstants.{BLOCK_BYTES}

abbrev pub invariant-loop-i : goal.invariant-loop-i
invariant-loop-i l = record {
  long : length l.block ≡ BLOCK_BYTES;
  done : (j : ℕ) → j < l.i → get_or l.block (4 * j + l.k) 0 ≡ get_or l.word j 0;
  kept : (m j : ℕ) → m < 4 → m ≢ l.k → get_or l.block (4 * j + m) 0 ≡ get_or l.initial.block (4 * j + m) 0;
}
