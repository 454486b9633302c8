use Rattle.lr_redecode.proofs.First.{one_pass}
use Rattle.lr_redecode.proofs.laws.one_pass_is_plain.Goals as goal

pub returns : goal.returns
returns c = one_pass
