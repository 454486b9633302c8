use Rattle.lr_vc.proofs.Fitting.{packets_fit}
use Rattle.lr_vc.proofs.laws.packets_fit_the_zones.Goals as goal

pub returns : goal.returns
returns c = packets_fit
