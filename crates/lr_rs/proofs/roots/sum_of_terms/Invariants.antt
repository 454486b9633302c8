use Rattle.std.proofs.Common.{◌≡◌, slice_index}
use Rattle.lr_gf.specs.Sums.{sum_of}
use Rattle.lr_rs.proofs.roots.sum_of_terms.Given as goal

abbrev pub invariant-loop-k : goal.invariant-loop-k
invariant-loop-k l = l.sum ≡ sum_of l.k (slice_index l.terms)
