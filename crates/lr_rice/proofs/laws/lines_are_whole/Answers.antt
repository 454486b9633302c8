use Rattle.lr_rice.proofs.WholeLines.{lines_are_whole}
use Rattle.lr_rice.proofs.laws.lines_are_whole.Goals as goal

pub returns : goal.returns
returns c = lines_are_whole
