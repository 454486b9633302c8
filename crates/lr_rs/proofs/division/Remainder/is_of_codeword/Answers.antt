use Rattle.std.proofs.Common.{subst, sym, ◌∙◌}
use Rattle.lr_rs.specs.Division.{IsWordRemainder}
use Rattle.lr_rs.proofs.DivisionSteps.{of_word}
use Rattle.lr_rs.proofs.Remainders.{codeword_of_zeros, zeros_of_codeword}
use Rattle.lr_rs.proofs.division.Remainder.is_of_codeword.Goals as goal

-- the remainder is 0 at the codewords alone
pub returns : goal.returns
returns c = λ word r long.
    let rest = c.put_elements.new.elements in
    let here : IsWordRemainder word rest =
    subst (IsWordRemainder word) (sym (c.put_elements.ensures ∙ c.self.view_is))
    (of_word word c.args.self.now long r) in (
      λ zero. codeword_of_zeros word rest here (c.are_zero.ensures.0 zero),
      λ codeword. c.are_zero.ensures.1 (zeros_of_codeword word rest here codeword),
    )
