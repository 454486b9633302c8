use Rattle.lr_file.proofs.Fitting.{files_fit}
use Rattle.lr_file.proofs.laws.files_fit_the_packets.Goals as goal

pub returns : goal.returns
returns c = files_fit
