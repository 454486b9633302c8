-- The numbers from one place on, up to another.
use Rattle.std.proofs.Common.{◌≡◌, ◌<◌, ◌-◌, ◌+◌, ℕ, suc, ◌∷◌, arith, ap}
use Rattle.std.specs.List.{range_with_len}

pub next_first : (at count : ℕ) → at < count
    → range_with_len at (count - at) ≡ at ∷ range_with_len (at + 1) (count - (at + 1))
next_first at count lt =
    let more : count - at ≡ suc (count - (at + 1)) = omega (arith, lt) in ap (range_with_len at) more
