use Rattle.lr_cmd_shelf.proofs.Reasons.{has_export_reasons}
use Rattle.lr_cmd_shelf.proofs.laws.export_has_reasons.Goals as goal

pub returns : goal.returns
returns c = has_export_reasons
