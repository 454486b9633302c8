-- How many passes a decoder makes over a window.
use Rattle.std.specs.Prelude.{ℕ}
use Rattle.lr_conv.specs.declared.passes.Passes.{Passes}
use Rattle.lr_conv.specs.declared.passes.Passes.TheVariants.{One, Two, Three, Four}

abbrev pub number_of : Passes → ℕ
number_of One = 1
number_of Two = 2
number_of Three = 3
number_of Four = 4
