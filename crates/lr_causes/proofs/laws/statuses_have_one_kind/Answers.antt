use Rattle.lr_causes.proofs.Statuses.{one_kind}
use Rattle.lr_causes.proofs.laws.statuses_have_one_kind.Goals as goal

pub returns : goal.returns
returns c = one_kind
