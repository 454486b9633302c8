use Rattle.lr_rice.proofs.ReadingLines.{lines_have_no_fault}
use Rattle.lr_rice.proofs.laws.lines_have_no_fault.Goals as goal

pub returns : goal.returns
returns c = lines_have_no_fault
