-- Soft symbols: signed bytes, of which a positive one leans to 1.
use Rattle.std.specs.Prelude.{ℤ, negsuc}
use Rattle.std.specs.Int.{int_max}

-- the value of a symbol: -128 is read as -127
abbrev pub symbol_value : ℤ → ℤ
symbol_value symbol = int_max symbol (negsuc 126)
