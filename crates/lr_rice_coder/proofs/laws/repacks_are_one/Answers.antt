use Rattle.lr_rice_coder.proofs.OneRepack.{repacks_are_one}
use Rattle.lr_rice_coder.proofs.laws.repacks_are_one.Goals as goal

pub returns : goal.returns
returns c = repacks_are_one
