-- The symbols of the stream (CCSDS 131.0-B, sections 3.3 and 9.3).
use Rattle.std.specs.Prelude.{ℕ, ℤ, pos, negsuc, zero, suc, ◌+◌, ◌*◌, ◌==◌, ◌++◌, Bool, true, false, List, [], ◌∷◌}
use Rattle.std.specs.Prelude.{length, map, drop, replicate}
use Rattle.std.specs.Int.{cast_unsigned, w8}
use Rattle.std.specs.List.{range_with_len}
use Rattle.lr_bits.specs.declared.sizes.TheConstants.{FRAME_SYMBOLS}
use Rattle.lr_bits.specs.Bits.{bit_of}
use Rattle.lr_conv.specs.Convolution.{code}
use Rattle.lr_conv.specs.declared.line.TheConstants.{STANDARD}
use Rattle.lr_make.specs.Blocks.{block_at}

-- all bits of these bytes, the most significant of each byte first
unfoldable pub bits_of_bytes : List ℕ → List Bool
bits_of_bytes bytes = map (λ place. bit_of bytes place == 1) (range_with_len 0 (8 * length bytes))

-- the marker and a block
abbrev pub marked_block : List ℕ → List ℕ
marked_block block = 0x1A ∷ 0xCF ∷ 0xFC ∷ 0x1D ∷ block

-- the bits of what is sent of the first n frames
unfoldable pub sent_bits : ℕ → ℕ → ℕ → List Bool
sent_bits start wrong zero = []
sent_bits start wrong (suc n) = sent_bits start wrong n ++ bits_of_bytes (marked_block (block_at start wrong n))

-- how a demodulator gives a symbol: 100 for 1, and -100 for 0
abbrev pub level : Bool → ℤ
level true = pos 100
level false = negsuc 99

-- each symbol in one byte
abbrev pub bytes_of_symbols : List ℤ → List ℕ
bytes_of_symbols symbols = map (cast_unsigned w8) symbols

-- the code of what is sent of the first n frames, by one encoder that begins after six bits of 0
abbrev pub all_symbols : ℕ → ℕ → ℕ → List ℤ
all_symbols start wrong n = map level (code STANDARD (replicate 6 false) (sent_bits start wrong n))

-- the symbols of frame n: of the code of the first n + 1 frames what is after the code of the first n
unfoldable pub symbols_at : ℕ → ℕ → ℕ → List ℤ
symbols_at start wrong n = drop (FRAME_SYMBOLS * n) (all_symbols start wrong (n + 1))
