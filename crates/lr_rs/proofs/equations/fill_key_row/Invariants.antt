use Rattle.std.proofs.Common.{◌≡◌, ◌≢◌, ℕ, ◌<◌, ◌+◌, ◌-◌, get_or}
use Rattle.lr_gf.specs.Systems.{entry}
use Rattle.lr_rs.proofs.equations.fill_key_row.Given as goal

abbrev pub invariant-loop-k : goal.invariant-loop-k
invariant-loop-k l =
    ((k : ℕ) → k < l.k → entry l.system l.i k ≡ get_or l.syndromes (l.i + (16 - k)) 0)
    × ((r k : ℕ) → r < 16 → k < 17 → r ≢ l.i → entry l.system r k ≡ entry l.initial.system r k)
