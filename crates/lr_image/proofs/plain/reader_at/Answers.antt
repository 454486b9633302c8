use Rattle.std.proofs.Common.{◌∙◌, sym, ap, drop, length, arith}
use Rattle.std.proofs.lemmas.List.{drop_at}
use Rattle.lr_bits.specs.Bits.{number_bits}
use Rattle.lr_bits.proofs.BitsLemmas.{length-bits_of}
use Rattle.lr_bits.proofs.ReaderLemmas.{length-number_bits}
use Rattle.lr_image.proofs.plain.reader_at.Goals as goal

pub unreachable-requires : goal.unreachable-requires
unreachable-requires c =
    omega (arith, c.in_default.ensures.err.0, ap length c.new-reader.ensures, length-bits_of c.args.bytes.now)

pub returns : goal.returns
returns c =
    let front = number_bits c.args.first_bit c.in-Ok.field-0 in
    sym (drop_at front c.bits.new.self c.args.first_bit (length-number_bits c.args.first_bit c.in-Ok.field-0))
    ∙ ap (drop c.args.first_bit) (sym c.in-Ok.ensures.ok ∙ c.new-reader.ensures)
