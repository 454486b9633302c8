use Rattle.std.proofs.Common.{arith}
use Rattle.lr_rs.proofs.TermSteps.{term_product-is}
use Rattle.lr_rs.proofs.terms.next_term.Goals as goal

pub returns : goal.returns
returns c = term_product-is c.args.element c.args.k (omega arith) c.requires
