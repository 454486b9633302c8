use Rattle.lr_rs.proofs.Remainders.{codeword_of_zeros, zeros_of_codeword}
use Rattle.lr_rs.proofs.restoring.is_codeword.Goals as goal

-- the remainder is 0 at the codewords alone
pub returns-clause-codeword : goal.returns-clause-codeword
returns-clause-codeword c = (
  λ zero. codeword_of_zeros c.args.word.now c.remainder_of.new.remainder c.remainder_of.ensures.remainder
      (c.are_zero.ensures.0 zero),
  λ codeword. c.are_zero.ensures.1
      (zeros_of_codeword c.args.word.now c.remainder_of.new.remainder c.remainder_of.ensures.remainder codeword),
)
