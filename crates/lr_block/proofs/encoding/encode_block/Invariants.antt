use Rattle.std.proofs.Common.{◌≡◌, ℕ, ◌<◌, length}
use Rattle.lr_block.specs.Blocks.{information_of, word_of}
use Rattle.lr_block.proofs.Interleaving.{IsTheCodeword}
use Rattle.lr_block.proofs.encoding.encode_block.Given as goal
use Rattle.lr_bits.specs.declared.sizes.TheConstants.{BLOCK_BYTES}

abbrev pub invariant-loop-k : goal.invariant-loop-k
invariant-loop-k l = record {
  long : length l.block ≡ BLOCK_BYTES;
  each : (j : ℕ) → j < l.k → IsTheCodeword (information_of l.frame j) (word_of l.block j);
}
