use Rattle.lr_reading.proofs.Coming.{outcomes_are}
use Rattle.lr_reading.proofs.laws.outcomes_are_of_arrivals.Goals as goal

pub returns : goal.returns
returns c = outcomes_are
