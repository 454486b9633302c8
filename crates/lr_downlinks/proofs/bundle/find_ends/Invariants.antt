use Rattle.std.proofs.Common.{◌≡◌, ◌≤◌, length, take}
use Rattle.lr_downlinks.specs.Readings.{AreFound, last_end}
use Rattle.lr_downlinks.proofs.bundle.find_ends.Given as goal

abbrev pub invariant-loop-k : goal.invariant-loop-k
invariant-loop-k l =
    AreFound l.bytes 1 (take l.k l.ends) × (l.at ≡ last_end 1 (take l.k l.ends)) × (l.at ≤ length l.bytes)
