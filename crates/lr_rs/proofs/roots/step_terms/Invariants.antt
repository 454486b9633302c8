use Rattle.std.proofs.Common.{◌≡◌, ℕ, ◌<◌, ◌≤◌, get_or}
use Rattle.lr_gf.specs.Field.{times}
use Rattle.lr_rs.specs.RootLists.{term_factor}
use Rattle.lr_rs.proofs.roots.step_terms.Given as goal

abbrev pub invariant-loop-k : goal.invariant-loop-k
invariant-loop-k l =
    ((i : ℕ) → i < l.k → get_or l.terms i 0 ≡ times (get_or l.initial.terms i 0) (term_factor i))
    × ((i : ℕ) → l.k ≤ i → get_or l.terms i 0 ≡ get_or l.initial.terms i 0)
