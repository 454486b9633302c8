use Rattle.std.proofs.Common.{subst}
use Rattle.lr_rs.specs.Division.{IsDivisionStep}
use Rattle.lr_rs.proofs.DivisionSteps.{of_one_more}
use Rattle.lr_rs.proofs.division.Remainder.with_byte.Goals as goal

pub returns : goal.returns
returns c = λ bytes r.
    of_one_more bytes c.args.self c.divide_step.result c.args.byte c.from_dual.result c.from_dual.ensures.from r
    (subst (λ old. IsDivisionStep c.from_dual.result old c.divide_step.result) c.self.view_is c.divide_step.ensures)
