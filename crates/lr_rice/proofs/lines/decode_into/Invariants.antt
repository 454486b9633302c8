use Rattle.std.proofs.Common.{◌*◌, take}
use Rattle.lr_bits.specs.Bits.{bits_of}
use Rattle.lr_rice.specs.CodedLines.{form_of}
use Rattle.lr_rice.proofs.LinesLemmas.{LinesRead}
use Rattle.lr_rice.proofs.lines.decode_into.Given as goal

-- the lines so far, whose samples were written
abbrev pub invariant-loop-line : goal.invariant-loop-line
invariant-loop-line l =
    LinesRead (form_of l.bits l.block l.columns) l.line (take (l.columns * l.line) l.out) (bits_of l.coded) l.reader
