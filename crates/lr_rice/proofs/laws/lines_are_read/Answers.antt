use Rattle.lr_rice.proofs.EachString.{lines_are_read}
use Rattle.lr_rice.proofs.laws.lines_are_read.Goals as goal

pub returns : goal.returns
returns c = lines_are_read
