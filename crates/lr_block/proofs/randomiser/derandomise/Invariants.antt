use Rattle.std.proofs.Common.{◌≡◌, ℕ, ◌<◌, ◌≤◌, get_or, length, bit_xor}
use Rattle.lr_block.specs.Randomiser.{sequence_byte}
use Rattle.lr_block.proofs.randomiser.derandomise.Given as goal
use Rattle.lr_bits.specs.declared.sizes.TheConstants.{BLOCK_BYTES}

abbrev pub invariant-loop-i : goal.invariant-loop-i
invariant-loop-i l = record {
  long : length l.block ≡ BLOCK_BYTES;
  done : (k : ℕ) → k < l.i → get_or l.block k 0 ≡ bit_xor (get_or l.initial.block k 0) (sequence_byte k);
  to_come : (k : ℕ) → l.i ≤ k → get_or l.block k 0 ≡ get_or l.initial.block k 0;
}
