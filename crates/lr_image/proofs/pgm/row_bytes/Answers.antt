use Rattle.std.proofs.Common.{◌≤◌, ◌∙◌, arith}
use Rattle.std.proofs.lemmas.Grind.{common_steps}
use Rattle.std.proofs.lemmas.Result.{IfOk-weaker}
use Rattle.lr_image.proofs.PgmLemmas.{low_bytes_are}
use Rattle.lr_image.proofs.pgm.row_bytes.Goals as goal

pub returns-then-bits-le-BYTE_BITS : goal.returns-then-bits-le-BYTE_BITS
returns-then-bits-le-BYTE_BITS c =
    let few : c.args.bits ≤ 8 = omega arith in
    let are = low_bytes_are c.args.bits c.args.row.now few c.requires in
    IfOk-weaker c.low_bytes.result _ _ (λ bytes is. is ∙ are) c.low_bytes.ensures

pub returns-else-bits-le-BYTE_BITS : goal.returns-else-bits-le-BYTE_BITS
returns-else-bits-le-BYTE_BITS c = grind (arith, common_steps)
