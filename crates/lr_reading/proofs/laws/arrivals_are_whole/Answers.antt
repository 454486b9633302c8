use Rattle.lr_reading.proofs.Whole.{all_whole}
use Rattle.lr_reading.proofs.laws.arrivals_are_whole.Goals as goal

pub returns : goal.returns
returns c = all_whole
