use Rattle.lr_laws.proofs.WholeFiles.{whole_files_came}
use Rattle.lr_laws.proofs.mending.whole_files_are_those_that_came.Goals as goal

pub returns : goal.returns
returns c = whole_files_came
