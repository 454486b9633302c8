use Rattle.std.proofs.Common.{◌≡◌, ◌≤◌, ◌*◌, ◌^◌, take, length}
use Rattle.lr_rice.specs.CodedLines.{pairs_string}
use Rattle.lr_rice_coder.proofs.cost.pairs_length.Given as goal

-- the pairs so far
abbrev pub invariant-loop-i : goal.invariant-loop-i
invariant-loop-i l = (l.sum ≡ length (pairs_string (take (2 * l.i) l.places))) × (l.sum ≤ l.i * 2 ^ 34)
