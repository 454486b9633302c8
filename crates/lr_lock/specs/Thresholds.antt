-- The numbers that the lock decides by. The code's own constants of `sizes` are these, and the contracts cite the ones
-- here, so that a constant which differs is refused.
use Rattle.std.specs.Prelude.{ℕ}

-- the hits at which a search locks
abbrev pub acquiring_hits : ℕ
acquiring_hits = 45

-- the hits at which a marker is seen right after a frame
abbrev pub holding_hits : ℕ
holding_hits = 37

-- the misses in succession that still give a frame
abbrev pub flywheel_misses : ℕ
flywheel_misses = 3

-- the symbols that a lock keeps at most
abbrev pub lock_symbols : ℕ
lock_symbols = 65536
