use Rattle.std.proofs.Common.{◌≡◌, ℕ, ◌<◌, ◌≤◌, get_or, length}
use Rattle.lr_gf.specs.Systems.{entry}
use Rattle.lr_gf.proofs.system.write_dependence.Given as goal

abbrev pub invariant-loop-k : goal.invariant-loop-k
invariant-loop-k l =
    ((k : ℕ) → k < l.k → get_or l.x k 0 ≡ entry l.cells k l.column) × ((k : ℕ) → l.k ≤ k → get_or l.x k 0 ≡ 0)
    × (length l.x ≡ 17)
