use Rattle.std.proofs.Common.{◌≡◌, ℕ, ◌+◌, ◌*◌, ◌<◌, get_or, length}
use Rattle.lr_block.proofs.encoding.take_information.Given as goal
use Rattle.lr_rs.specs.declared.sizes.TheConstants.{INFORMATION_BYTES}

abbrev pub invariant-loop-i : goal.invariant-loop-i
invariant-loop-i l = record {
  long : length l.information ≡ INFORMATION_BYTES;
  done : (j : ℕ) → j < l.i → get_or l.information j 0 ≡ get_or l.frame (4 * j + l.k) 0;
}
