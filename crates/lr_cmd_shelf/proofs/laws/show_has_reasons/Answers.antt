use Rattle.lr_cmd_shelf.proofs.Reasons.{show_has_reasons}
use Rattle.lr_cmd_shelf.proofs.laws.show_has_reasons.Goals as goal

pub returns : goal.returns
returns c = show_has_reasons
