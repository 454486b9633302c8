use Rattle.std.proofs.Common.{◌≡◌, ◌-◌, ◌++◌}
use Rattle.lr_rice_coder.specs.Writing.{line_string, string_after}
use Rattle.lr_rice_coder.proofs.line.write_line.Given as goal

-- what is written, and the string to come
abbrev pub invariant-loop-at : goal.invariant-loop-at
invariant-loop-at l = l.writer ++ string_after l.line l.at ≡ l.fn.writer ++ line_string l.line

abbrev pub decreases-loop-at : goal.decreases-loop-at
decreases-loop-at l = l.blocks - l.at
