use Rattle.std.proofs.Common.{◌≡◌, ◌≤◌}
use Rattle.lr_rs.specs.Words.{distance}
use Rattle.lr_rs.proofs.correction.distance_of.Given as goal

abbrev pub invariant-loop-i : goal.invariant-loop-i
invariant-loop-i l = (l.count ≡ distance l.i l.a l.b) × (l.count ≤ l.i)
