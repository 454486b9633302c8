use Rattle.std.proofs.Common.{◌≡◌, take}
use Rattle.lr_gf.specs.Field.{value_of}
use Rattle.lr_gf.proofs.element.value.Given as goal

abbrev pub invariant-loop-coefficient : goal.invariant-loop-coefficient
invariant-loop-coefficient l = l.sum ≡ value_of (take l.coefficient-index l.coefficients) l.at
