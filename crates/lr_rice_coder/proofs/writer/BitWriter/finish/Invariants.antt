use Rattle.std.proofs.Common.{◌≡◌, ◌%◌, ◌<◌, ◌++◌}
use Rattle.lr_bits.specs.Bits.{bits_of, number_bits}
use Rattle.lr_rice_coder.proofs.writer.BitWriter.finish.Given as goal

-- what is in the bytes, and what is pending
abbrev pub invariant-loop-count : goal.invariant-loop-count
invariant-loop-count l = record {
  few : l.count < 32;
  whole : l.count % 8 ≡ 0;
  bits_are : bits_of l.bytes.items ++ number_bits l.count l.pending ≡ l.fn.self ++ number_bits l.zeros 0;
}

abbrev pub decreases-loop-count : goal.decreases-loop-count
decreases-loop-count l = l.count
