use Rattle.lr_rice_coder.specs.Fronts.{picture_with}
use Rattle.lr_rice_coder.proofs.MakingLemmas.{LinesSoFar}
use Rattle.lr_rice_coder.proofs.files.code_lines.Given as goal

-- the lines so far
abbrev pub invariant-loop-line : goal.invariant-loop-line
invariant-loop-line l = LinesSoFar (picture_with l.structure l.pixels) l.block l.room l.line l.fn.lines l.lines
