use Rattle.std.proofs.Common.{◌≡◌, ◌≢◌, ℕ, ◌<◌, get_or, bit_xor, length}
use Rattle.lr_gf.specs.Dual.{conventional_of}
use Rattle.lr_rs.proofs.correction.correct.Given as goal
use Rattle.lr_rs.specs.declared.sizes.TheConstants.{WORD_BYTES}

abbrev pub invariant-loop-l : goal.invariant-loop-l
invariant-loop-l l =
    ((j : ℕ) → j < l.l → conventional_of (get_or l.word (get_or l.places j 0) 0)
    ≡ bit_xor (conventional_of (get_or l.initial.word (get_or l.places j 0) 0)) (get_or l.errors j 0))
    × ((p : ℕ) → ((j : ℕ) → j < l.l → get_or l.places j 0 ≢ p) → get_or l.word p 0 ≡ get_or l.initial.word p 0)
    × (length l.word ≡ WORD_BYTES)
