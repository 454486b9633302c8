use Rattle.lr_rice_coder.proofs.LawLemmas.{coded_is_decoded}
use Rattle.lr_rice_coder.proofs.laws.coded_is_decoded.Goals as goal

pub returns : goal.returns
returns c = coded_is_decoded
