use Rattle.lr_laws.proofs.Repacking.{repacks_have_outcomes}
use Rattle.lr_laws.proofs.additions.repacks_have_outcomes.Goals as goal

pub returns : goal.returns
returns c = repacks_have_outcomes
