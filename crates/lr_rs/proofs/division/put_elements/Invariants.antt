use Rattle.std.proofs.Common.{◌≡◌, ℕ, ◌<◌, get_or, length}
use Rattle.lr_rs.proofs.division.put_elements.Given as goal
use Rattle.lr_rs.specs.declared.sizes.TheConstants.{CHECK_BYTES}

abbrev pub invariant-loop-k : goal.invariant-loop-k
invariant-loop-k l = (length l.elements ≡ CHECK_BYTES) ×
    ((j : ℕ) → j < l.k → get_or l.elements j 0 ≡ get_or l.bytes j 0)
