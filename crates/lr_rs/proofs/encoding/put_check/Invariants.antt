use Rattle.std.proofs.Common.{◌≡◌, ℕ, ◌+◌, ◌<◌, get_or, length}
use Rattle.lr_gf.specs.Dual.{conventional_of}
use Rattle.lr_rs.proofs.encoding.put_check.Given as goal
use Rattle.lr_rs.specs.declared.sizes.TheConstants.{INFORMATION_BYTES, WORD_BYTES}

abbrev pub invariant-loop-k : goal.invariant-loop-k
invariant-loop-k l =
    ((i : ℕ) → i < INFORMATION_BYTES → get_or l.word i 0 ≡ get_or l.initial.word i 0)
    × ((j : ℕ) → j < l.k → conventional_of (get_or l.word (INFORMATION_BYTES + j) 0) ≡ get_or l.check j 0)
    × ((j : ℕ) → j < l.k → get_or l.word (INFORMATION_BYTES + j) 0 < 256)
    × (length l.word ≡ WORD_BYTES)
