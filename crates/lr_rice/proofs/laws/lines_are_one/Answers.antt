use Rattle.lr_rice.proofs.ReadingLines.{lines_are_one}
use Rattle.lr_rice.proofs.laws.lines_are_one.Goals as goal

pub returns : goal.returns
returns c = lines_are_one
