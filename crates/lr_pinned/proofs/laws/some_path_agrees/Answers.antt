use Rattle.lr_pinned.proofs.Misses.{filled, filled_agrees, length-filled}
use Rattle.lr_pinned.proofs.laws.some_path_agrees.Goals as goal

pub returns : goal.returns
returns c = λ pins. (filled pins, length-filled pins, filled_agrees pins)
