use Rattle.std.proofs.Common.{◌≡◌, ◌*◌, ◌++◌, Bool, List, length, map, take, drop}
use Rattle.lr_bits.specs.declared.sizes.TheConstants.{FRAME_SYMBOLS}
use Rattle.lr_conv.specs.LineEncoder.{LineEncoderStandsFor}
use Rattle.lr_conv.specs.declared.line.LineCode.{LineCode}
use Rattle.lr_make.specs.Symbols.{level}
use Rattle.lr_make.proofs.Coding.{first_bits, line_code}
use Rattle.lr_make.proofs.symbols.put_symbols.Given as goal

abbrev pub invariant-loop-place : goal.invariant-loop-place
invariant-loop-place l = record {
  long : length l.symbols ≡ FRAME_SYMBOLS;
  code : (line : LineCode) (bits : List Bool) → LineEncoderStandsFor l.initial.encoder line bits →
      take (2 * l.place) l.symbols ≡ map level (drop (2 * length bits)
      (line_code line (bits ++ first_bits l.bytes l.place)));
  stands : (line : LineCode) (bits : List Bool) → LineEncoderStandsFor l.initial.encoder line bits →
      LineEncoderStandsFor l.encoder line (bits ++ first_bits l.bytes l.place);
}
