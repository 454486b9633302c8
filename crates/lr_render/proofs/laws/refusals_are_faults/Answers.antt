use Rattle.lr_render.proofs.Planning.{refusals_are_faults}
use Rattle.lr_render.proofs.laws.refusals_are_faults.Goals as goal

pub returns : goal.returns
returns c = refusals_are_faults
