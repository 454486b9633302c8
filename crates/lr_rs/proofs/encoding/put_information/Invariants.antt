use Rattle.std.proofs.Common.{◌≡◌, ℕ, ◌<◌, ◌≤◌, get_or, length}
use Rattle.lr_rs.proofs.encoding.put_information.Given as goal
use Rattle.lr_rs.specs.declared.sizes.TheConstants.{WORD_BYTES}

abbrev pub invariant-loop-i : goal.invariant-loop-i
invariant-loop-i l =
    ((k : ℕ) → k < l.i → get_or l.word k 0 ≡ get_or l.information k 0)
    × ((k : ℕ) → l.i ≤ k → get_or l.word k 0 ≡ 0) × (length l.word ≡ WORD_BYTES)
