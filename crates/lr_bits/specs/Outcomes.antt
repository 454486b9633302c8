-- What became of a block.
use Rattle.std.specs.Prelude.{Bool, true, false}
use Rattle.lr_bits.specs.declared.outcome.Outcome.{Outcome}
use Rattle.lr_bits.specs.declared.outcome.Outcome.TheVariants.{Restored, Lost}

-- it was restored to a frame
abbrev pub is_restored : Outcome → Bool
is_restored (Restored corrected frame) = true
is_restored (Lost word) = false
