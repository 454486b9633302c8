use Rattle.lr_rice_coder.proofs.LeastLemmas.{no_coding_is_shorter}
use Rattle.lr_rice_coder.proofs.laws.no_coding_is_shorter.Goals as goal

pub returns : goal.returns
returns c = no_coding_is_shorter
