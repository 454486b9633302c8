use Rattle.std.proofs.Common.{List, ℕ}
use Rattle.lr_rs.specs.Division.{IsRemainderOf}
use Rattle.lr_block.specs.Blocks.{every_fourth}
use Rattle.lr_block.proofs.restoring.are_codewords.Given as goal

-- the remainders of the first bytes of the four words
pub record AreRemainders (block : List ℕ) (count : ℕ) (first second third fourth : List ℕ) : Type 0 where
  pub in_first : IsRemainderOf (every_fourth count block 0) first
  pub in_second : IsRemainderOf (every_fourth count block 1) second
  pub in_third : IsRemainderOf (every_fourth count block 2) third
  pub in_fourth : IsRemainderOf (every_fourth count block 3) fourth

abbrev pub invariant-loop-i : goal.invariant-loop-i
invariant-loop-i l = AreRemainders l.block l.i l.first l.second l.third l.fourth
