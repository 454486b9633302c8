use Rattle.std.proofs.Common.{◌≡◌, ◌≤◌, length}
use Rattle.lr_rs.specs.RootLists.{IsRootList}
use Rattle.lr_rs.proofs.TermSteps.{AreTerms}
use Rattle.lr_rs.proofs.roots.find_roots.Given as goal
use Rattle.lr_rs.specs.declared.sizes.TheConstants.{WORD_BYTES}

abbrev pub invariant-loop-place : goal.invariant-loop-place
invariant-loop-place l =
    AreTerms l.polynomial l.terms l.place × IsRootList l.polynomial l.place l.count l.places
    × (l.count ≤ l.place) × (length l.places ≡ WORD_BYTES)
