use Rattle.std.proofs.Common.{drop, take}
use Rattle.lr_bits.specs.Bits.{bits_of}
use Rattle.lr_image.proofs.PlainLemmas.{PixelsRead}
use Rattle.lr_image.proofs.plain.read_numbers.Given as goal

-- the pixels so far
abbrev pub invariant-loop-pixel : goal.invariant-loop-pixel
invariant-loop-pixel l =
    PixelsRead l.bits l.pixel-index (drop l.first_bit (bits_of l.bytes)) (take l.pixel-index l.pixels) l.reader
