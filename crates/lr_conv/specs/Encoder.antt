-- What an encoder of the standard's code has taken.
use Rattle.std.specs.Prelude.{◌≡◌, ℕ, ◌-◌, ◌==◌, Bool, List, ◌++◌, length, map, drop}
use Rattle.std.specs.Int.{bit_at}
use Rattle.std.specs.List.{range_with_len}
use Rattle.lr_conv.specs.declared.encoder.Encoder.{Encoder}

-- the six low bits of a state, the most significant first
abbrev pub past_of : ℕ → List Bool
past_of state = map (λ k. bit_at state (5 - k) == 1) (range_with_len 0 6)

-- the encoder began after these six bits, and has taken these bits since
pub record EncoderStandsFor (encoder : Encoder) (past bits : List Bool) : Type 0 where
  pub six : length past ≡ 6
  pub last_six : past_of encoder.state ≡ drop (length bits) (past ++ bits)
