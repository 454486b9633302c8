use Rattle.std.proofs.Common.{take}
use Rattle.lr_rs.specs.Division.{IsRemainderOf}
use Rattle.lr_rs.proofs.division.remainder_of.Given as goal

abbrev pub invariant-loop-byte : goal.invariant-loop-byte
invariant-loop-byte l = IsRemainderOf (take l.byte-index l.word) l.divided
