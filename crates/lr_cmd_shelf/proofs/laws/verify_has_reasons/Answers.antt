use Rattle.lr_cmd_shelf.proofs.Reasons.{says_why}
use Rattle.lr_cmd_shelf.proofs.laws.verify_has_reasons.Goals as goal

pub returns : goal.returns
returns c = says_why
