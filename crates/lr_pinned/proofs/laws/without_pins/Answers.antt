use Rattle.std.specs.Prelude.{None, replicate}
use Rattle.lr_pinned.proofs.Unique.{all_free, free_named, free_nearest, free_pinned}
use Rattle.lr_pinned.proofs.laws.without_pins.Goals as goal

pub returns-clause-nearest : goal.returns-clause-nearest
returns-clause-nearest c = λ line n w x p. free_nearest line (replicate n None) w x (all_free n) p

pub returns-clause-pinned : goal.returns-clause-pinned
returns-clause-pinned c = λ line n w x p. free_pinned line (replicate n None) w x (all_free n) p

pub returns-clause-named : goal.returns-clause-named
returns-clause-named c = λ line n w. free_named line (replicate n None) w (all_free n)
