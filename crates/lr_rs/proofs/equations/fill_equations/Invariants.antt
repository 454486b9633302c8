use Rattle.std.proofs.Common.{◌≡◌, ℕ, ◌<◌, ◌+◌, get_or}
use Rattle.lr_gf.specs.Field.{power}
use Rattle.lr_gf.specs.Systems.{entry}
use Rattle.lr_rs.specs.Words.{locator}
use Rattle.lr_rs.proofs.equations.fill_equations.Given as goal

abbrev pub invariant-loop-j : goal.invariant-loop-j
invariant-loop-j l =
    ((i k : ℕ) → i < l.j → k < l.count → entry l.system i k ≡ power (locator (get_or l.places k 0)) (112 + i))
    × ((i : ℕ) → i < l.j → entry l.system i l.count ≡ get_or l.syndromes i 0)
