use Rattle.std.proofs.Common.{◌*◌, ◌^◌, ◌%◌, ◌∙◌, ap, sym, bit_xor, arith}
use Rattle.lr_bits.proofs.CrcLemmas.{remainder_of-bytes}
use Rattle.lr_bits.proofs.crc.crc_with.Goals as goal

pub returns : goal.returns
returns c =
    ap (bit_xor (c.args.crc * 2 ^ 8 % 2 ^ 16)) c.remainder.ensures
    ∙ sym (remainder_of-bytes c.args.crc c.args.byte (omega arith))
