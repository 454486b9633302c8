use Rattle.std.proofs.Common.{refl, arith}
use Rattle.lr_gf.proofs.Reduction.{zero_row}
use Rattle.lr_rs.proofs.encoding.put_information.Goals as goal

pub loop-i-init : goal.loop-i-init
loop-i-init c = (λ k h. absurd (omega arith), λ k h. zero_row 255 k, refl)
