use Rattle.std.proofs.Common.{arith}
use Rattle.lr_image.proofs.room.most_lines.Goals as goal

pub loop-piece-init : goal.loop-piece-init
loop-piece-init c = record { inside = c.requires; few = omega arith; all = omega arith }
