use Rattle.std.proofs.Common.{◌≡◌, ℕ, ◌<◌, ◌+◌, ◌*◌, get_or}
use Rattle.lr_gf.specs.Field.{power, value_of}
use Rattle.lr_rs.proofs.syndromes.syndromes_of.Given as goal

abbrev pub invariant-loop-j : goal.invariant-loop-j
invariant-loop-j l = (k : ℕ) → k < l.j → get_or l.syndromes k 0 ≡ value_of l.remainder (power 2 (11 * (112 + k)))
