use Rattle.std.proofs.Common.{◌≡◌, ◌++◌}
use Rattle.lr_bits.specs.Bits.{zeros_and_one}
use Rattle.lr_rice_coder.proofs.writer.BitWriter.sequence.Given as goal

-- what is written, and the rest of the sequence
abbrev pub invariant-loop-left : goal.invariant-loop-left
invariant-loop-left l = l.self ++ zeros_and_one l.left ≡ l.fn.self ++ zeros_and_one l.zeros

abbrev pub decreases-loop-left : goal.decreases-loop-left
decreases-loop-left l = l.left
