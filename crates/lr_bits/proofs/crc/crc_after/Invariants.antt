use Rattle.std.proofs.Common.{◌≡◌, ℕ, List, ◌++◌, length}
use Rattle.lr_bits.specs.Crc.{crc_of}
use Rattle.lr_bits.proofs.crc.crc_after.Given as goal

abbrev pub invariant-loop-chunk : goal.invariant-loop-chunk
invariant-loop-chunk l =
    (front : List ℕ)
    × (l.more ≡ front ++ l.rest) × ((bytes : List ℕ) → l.before ≡ crc_of bytes → l.crc ≡ crc_of (bytes ++ front))

abbrev pub decreases-loop-chunk : goal.decreases-loop-chunk
decreases-loop-chunk l = length l.rest
