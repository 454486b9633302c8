use Rattle.std.proofs.Common.{◌≡◌, take}
use Rattle.lr_lock.specs.Symbols.{symbols_of}
use Rattle.lr_lock.proofs.lock.write_bytes.Given as goal

abbrev pub invariant-loop-i : goal.invariant-loop-i
invariant-loop-i l = take l.i l.symbols ≡ symbols_of (take l.i l.piece)
