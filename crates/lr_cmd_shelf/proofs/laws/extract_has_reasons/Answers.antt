use Rattle.lr_cmd_shelf.proofs.Reasons.{has_reasons}
use Rattle.lr_cmd_shelf.proofs.laws.extract_has_reasons.Goals as goal

pub returns : goal.returns
returns c = has_reasons
