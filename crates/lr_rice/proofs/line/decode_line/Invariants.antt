use Rattle.std.proofs.Common.{◌-◌, length}
use Rattle.lr_rice.specs.CodedLines.{form_of}
use Rattle.lr_rice.proofs.LineLemmas.{Reached}
use Rattle.lr_rice.proofs.line.decode_line.Given as goal

-- the parts so far, and the head of the next one
abbrev pub invariant-loop-decoded : goal.invariant-loop-decoded
invariant-loop-decoded l =
    Reached (form_of l.bits l.block (length l.fn.out)) l.reference l.fn.reader l.reader l.fn.out l.out l.option
    l.at l.last

abbrev pub decreases-loop-decoded : goal.decreases-loop-decoded
decreases-loop-decoded l = l.blocks - l.at
