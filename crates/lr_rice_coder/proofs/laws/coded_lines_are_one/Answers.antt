use Rattle.lr_rice_coder.proofs.LawLemmas.{coded_lines_are_one}
use Rattle.lr_rice_coder.proofs.laws.coded_lines_are_one.Goals as goal

pub returns : goal.returns
returns c = coded_lines_are_one
