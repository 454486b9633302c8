use Rattle.lr_render.proofs.OneOutcome.{strips_have_one_outcome}
use Rattle.lr_render.proofs.laws.strips_have_one_outcome.Goals as goal

pub returns : goal.returns
returns c = strips_have_one_outcome
