use Rattle.lr_pinned.proofs.Unique.{only_pinned}
use Rattle.lr_pinned.proofs.laws.one_pinned_path.Goals as goal

pub returns : goal.returns
returns c = only_pinned
