use Rattle.lr_laws.proofs.SameLines.{kept_lines}
use Rattle.lr_laws.proofs.mending.kept_lines_are_the_same.Goals as goal

pub returns : goal.returns
returns c = kept_lines
