use Rattle.std.proofs.Common.{◌≡◌, ℕ, ◌<◌, pos, get_or, length}
use Rattle.std.specs.Int.{cast_unsigned, w8}
use Rattle.lr_bits.specs.declared.sizes.TheConstants.{FRAME_SYMBOLS}
use Rattle.lr_make.proofs.symbols.put_bytes.Given as goal

abbrev pub invariant-loop-i : goal.invariant-loop-i
invariant-loop-i l = record {
  long : length l.bytes ≡ FRAME_SYMBOLS;
  done : (k : ℕ) → k < l.i → get_or l.bytes k 0 ≡ cast_unsigned w8 (get_or l.symbols k (pos 0));
}
