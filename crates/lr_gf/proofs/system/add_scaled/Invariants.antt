use Rattle.std.proofs.Common.{◌≡◌, ℕ, ◌<◌, ◌≤◌, get_or, bit_xor}
use Rattle.lr_gf.specs.Field.{times}
use Rattle.lr_gf.proofs.system.add_scaled.Given as goal

abbrev pub invariant-loop-k : goal.invariant-loop-k
invariant-loop-k l =
    ((k : ℕ) → l.from ≤ k → k < l.k → get_or l.target k 0 ≡ bit_xor (get_or l.initial.target k 0)
    (times l.factor (get_or l.source k 0)))
    × ((k : ℕ) → k < l.from → get_or l.target k 0 ≡ get_or l.initial.target k 0)
    × ((k : ℕ) → l.k ≤ k → get_or l.target k 0 ≡ get_or l.initial.target k 0)
