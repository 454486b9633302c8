use Rattle.std.proofs.Common.{◌≡◌, ℕ, List, ◌++◌, take}
use Rattle.lr_bits.specs.Crc.{crc_of}
use Rattle.lr_bits.proofs.crc.crc_after_each.Given as goal

abbrev pub invariant-loop-byte : goal.invariant-loop-byte
invariant-loop-byte l = (bytes : List ℕ) → l.before ≡ crc_of bytes → l.crc ≡ crc_of (bytes ++ take l.byte-index l.more)
