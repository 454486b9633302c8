use Rattle.lr_conv.specs.LineEncoder.{LineEncoderStandsFor}
use Rattle.lr_conv.specs.declared.line.TheConstants.{STANDARD}
use Rattle.lr_make.proofs.Coding.{last_bits}
use Rattle.lr_make.proofs.symbols.after_block.Given as goal

abbrev pub invariant-loop-place : goal.invariant-loop-place
invariant-loop-place l = LineEncoderStandsFor l.encoder STANDARD (last_bits l.bytes l.place)
