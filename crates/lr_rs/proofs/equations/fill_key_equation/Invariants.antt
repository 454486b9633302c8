use Rattle.std.proofs.Common.{◌≡◌, ℕ, ◌<◌, ◌+◌, ◌-◌, get_or}
use Rattle.lr_gf.specs.Systems.{entry}
use Rattle.lr_rs.proofs.equations.fill_key_equation.Given as goal

abbrev pub invariant-loop-i : goal.invariant-loop-i
invariant-loop-i l = (i k : ℕ) → i < l.i → k < 17 → entry l.system i k ≡ get_or l.syndromes (i + (16 - k)) 0
