-- A reader of symbols that were put into bytes, one in each, finds the symbols.
use Rattle.std.proofs.Common.{◌≡◌, ◌∙◌, ap, refl, ℕ, Bool, true, false, List, [], ◌∷◌, map}
use Rattle.std.specs.Int.{cast_unsigned, w8}
use Rattle.lr_conv.specs.Convolution.{code}
use Rattle.lr_conv.specs.Levels.{levels, six_zeros}
use Rattle.lr_conv.specs.declared.line.LineCode.{LineCode}
use Rattle.lr_lock.specs.Symbols.{symbol_of, symbols_of}
use Rattle.lr_make.specs.Symbols.{bytes_of_symbols, level}
use Rattle.lr_sent.specs.Sent.{bits_of_blocks, symbols_of_blocks}

level_back : (b : Bool) → symbol_of (cast_unsigned w8 (level b)) ≡ level b
level_back true = refl
level_back false = refl

pub levels_back : (bits : List Bool) → symbols_of (bytes_of_symbols (map level bits)) ≡ map level bits
levels_back [] = refl
levels_back (bit ∷ bits) =
    ap (λ s. s ∷ symbols_of (bytes_of_symbols (map level bits))) (level_back bit)
    ∙ ap (λ s. level bit ∷ s) (levels_back bits)

pub symbols_back : (line : LineCode) (blocks : List (List ℕ))
    → symbols_of (bytes_of_symbols (symbols_of_blocks line blocks)) ≡ symbols_of_blocks line blocks
unfolding symbols_of_blocks
symbols_back line blocks = levels_back (code line six_zeros (levels line false (bits_of_blocks blocks)))
