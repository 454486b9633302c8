use Rattle.std.proofs.Common.{rules}
use Rattle.lr_image.specs.Pgm.{head_text}
use Rattle.lr_image.proofs.pgm.head_text.Goals as goal

pub returns : goal.returns
unfolding head_text
returns c = search rules
