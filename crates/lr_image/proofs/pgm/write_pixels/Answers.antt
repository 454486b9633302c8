use Rattle.std.proofs.Common.{◌≤◌, ◌∙◌, arith}
use Rattle.std.proofs.lemmas.Grind.{common_steps}
use Rattle.lr_image.proofs.PgmLemmas.{low_bytes_are}
use Rattle.lr_image.proofs.pgm.write_pixels.Goals as goal

pub returns-then-bits-le-BYTE_BITS-clause-written : goal.returns-then-bits-le-BYTE_BITS-clause-written
returns-then-bits-le-BYTE_BITS-clause-written c =
    let few : c.args.bits ≤ 8 = omega arith in
    c.write_low_bytes.ensures ∙ low_bytes_are c.args.bits c.args.pixels.now few c.requires.small

pub returns-else-bits-le-BYTE_BITS-clause-written : goal.returns-else-bits-le-BYTE_BITS-clause-written
returns-else-bits-le-BYTE_BITS-clause-written c = grind (arith, common_steps)
