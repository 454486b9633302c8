use Rattle.lr_rice_coder.proofs.LawLemmas.{fillings_are_whole}
use Rattle.lr_rice_coder.proofs.laws.fillings_are_whole.Goals as goal

pub returns : goal.returns
returns c = fillings_are_whole
