use Rattle.lr_file.proofs.Fitting.{files_some}
use Rattle.lr_file.proofs.laws.files_are_some.Goals as goal

pub returns : goal.returns
returns c = files_some
