use Rattle.lr_image.proofs.EachFile.{files_have_outcomes}
use Rattle.lr_image.proofs.laws.files_have_outcomes.Goals as goal

pub returns : goal.returns
returns c = files_have_outcomes
