use Rattle.lr_rice_coder.proofs.LawLemmas.{decoding_gives_the_line}
use Rattle.lr_rice_coder.proofs.laws.decoding_gives_the_line.Goals as goal

pub returns : goal.returns
returns c = decoding_gives_the_line
