use Rattle.std.proofs.Common.{◌∙◌, ap, sym, ◌<◌, ◌^◌, arith}
use Rattle.lr_bits.specs.Crc.{crc_of}
use Rattle.lr_bits.proofs.CrcLemmas.{added, gathered, crc_of-chunk}
use Rattle.lr_bits.proofs.crc.crc_after_chunk.Goals as goal

pub returns : goal.returns
unfolding gathered added
returns c bytes is =
    let chunk = c.args.chunk.now in
    let short : crc_of bytes < 2 ^ 16 = omega (arith, is) in
    rw (
      c.remainder.ensures,
      c.remainder-2.ensures,
      c.remainder-3.ensures,
      c.remainder-4.ensures,
      c.remainder-5.ensures,
      c.remainder-6.ensures,
      c.remainder-7.ensures,
      c.remainder-8.ensures,
    ) (ap (λ crc. gathered (added crc chunk) 7 0) is
    ∙ sym (crc_of-chunk bytes chunk c.told-chunk c.fits-chunk short))
