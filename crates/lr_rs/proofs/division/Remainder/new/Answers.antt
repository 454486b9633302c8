use Rattle.lr_rs.proofs.DivisionSteps.{of_no_bytes}
use Rattle.lr_rs.proofs.division.Remainder.new.Goals as goal

pub returns : goal.returns
returns c = of_no_bytes
