use Rattle.std.proofs.Common.{◌≡◌, ◌≤◌, ◌+◌, ◌*◌, length, arith}
use Rattle.lr_image.proofs.PlainLemmas.{bytes_begin}
use Rattle.lr_image.proofs.plain.read_pixels.Goals as goal

pub returns-then-first_bit-eq0 : goal.returns-then-first_bit-eq0
returns-then-first_bit-eq0 c =
    let bytes = c.args.bytes.now in
    let count = length c.args.pixels.now in
    let eight : c.args.bits ≡ 8 = c.if-bits-eq8.true in
    let enough : c.args.first_bit + 8 * count ≤ 8 * length bytes = rw eight at c.requires.enough in
    let inside : count ≤ length bytes = omega arith in
    rw (eight, c.if-first_bit-eq0.true, c.copy_bytes.ensures)
    (bytes_begin count bytes inside (λ i. (c.type_inv.bytes i).fits))
