-- What an encoder of a line code has taken.
use Rattle.std.specs.Prelude.{◌≡◌, Bool, false, List, ◌++◌, length, drop}
use Rattle.lr_conv.specs.Encoder.{past_of}
use Rattle.lr_conv.specs.Levels.{levels, six_zeros}
use Rattle.lr_conv.specs.declared.line.LineCode.{LineCode}
use Rattle.lr_conv.specs.declared.line.LineEncoder.{LineEncoder}

-- the encoder has this line code, and has taken these bits since six levels 0
pub record LineEncoderStandsFor (encoder : LineEncoder) (line : LineCode) (bits : List Bool) : Type 0 where
  pub same : encoder.line ≡ line
  pub last_six : past_of encoder.state ≡ drop (length bits) (six_zeros ++ levels line false bits)
