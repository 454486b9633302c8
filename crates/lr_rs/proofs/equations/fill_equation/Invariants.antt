use Rattle.std.proofs.Common.{◌≡◌, ◌≢◌, ℕ, ◌<◌, ◌+◌, get_or}
use Rattle.lr_gf.specs.Field.{power}
use Rattle.lr_gf.specs.Systems.{entry}
use Rattle.lr_rs.specs.Words.{locator}
use Rattle.lr_rs.proofs.equations.fill_equation.Given as goal

abbrev pub invariant-loop-l : goal.invariant-loop-l
invariant-loop-l l =
    ((k : ℕ) → k < l.l → entry l.system l.j k ≡ power (locator (get_or l.places k 0)) (112 + l.j))
    × ((r k : ℕ) → r < 16 → k < 17 → r ≢ l.j → entry l.system r k ≡ entry l.initial.system r k)
