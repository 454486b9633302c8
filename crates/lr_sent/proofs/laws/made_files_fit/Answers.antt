use Rattle.lr_sent.proofs.MadeFiles.{made_files_fit}
use Rattle.lr_sent.proofs.laws.made_files_fit.Goals as goal

pub returns : goal.returns
returns c = made_files_fit
