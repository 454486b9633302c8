use Rattle.lr_rice_coder.proofs.LawLemmas.{shortest_codes_line}
use Rattle.lr_rice_coder.proofs.laws.shortest_codes_line.Goals as goal

pub returns : goal.returns
returns c = shortest_codes_line
