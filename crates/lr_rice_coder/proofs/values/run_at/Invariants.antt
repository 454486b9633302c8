use Rattle.std.proofs.Common.{◌≡◌, ◌+◌, ◌-◌}
use Rattle.lr_rice_coder.specs.Shortest.{zero_run}
use Rattle.lr_rice_coder.proofs.values.run_at.Given as goal

-- so far all are 0
abbrev pub invariant-loop-i : goal.invariant-loop-i
invariant-loop-i l = zero_run l.block l.places l.most l.at ≡ l.i + zero_run l.block l.places (l.most - l.i) (l.at + l.i)
