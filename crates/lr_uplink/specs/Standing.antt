-- What an uplink stands for. Callers need `History` and `UplinkStandsFor` alone, and nothing of what is in the latter.
use Rattle.std.specs.Prelude.{◌≡◌, ◌≤◌, ℕ, ◌+◌, ◌++◌, List, [], ◌∷◌, length, take, All}
use Rattle.lr_bits.specs.File.{File}
use Rattle.lr_conv.specs.LineEncoder as encoders
use Rattle.lr_conv.specs.declared.line.LineCode.{LineCode}
use Rattle.lr_sent.specs.Sent.{AreSentFor, bits_of_blocks}
use Rattle.lr_uplink.specs.declared.uplink.Uplink.{Uplink}
use Rattle.lr_uplink.specs.Progress.{CountsStandFor, SentFramesStandFor}
use Rattle.lr_uplink.specs.Received.{IsSendable}
use Rattle.lr_uplink.specs.Sent.{sent}

-- the files that were loaded, how many of their frames were given, and the blocks that were sent
pub record History : Type 0 where
  pub files : List File
  pub given : ℕ
  pub blocks : List (List ℕ)

-- no frame of the files is left to give
abbrev pub IsAllGiven : History → Type 0
IsAllGiven history = history.given ≡ length (sent history.files)

-- the history with one file more, with one frame more, and with one block more
abbrev pub with_file : History → File → History
with_file history file = record history { files = history.files ++ file ∷ [] }

abbrev pub with_frame : History → History
with_frame history = record history { given = history.given + 1 }

abbrev pub with_block : History → List ℕ → History
with_block history block = record history { blocks = history.blocks ++ block ∷ [] }

-- An uplink of this line code stands for a history: it gives the frames of the files in their order, and has sent a
-- block for each of the first frames that it gave.
pub record UplinkStandsFor (uplink : Uplink) (line : LineCode) (history : History) : Type 0 where
  pub files : All IsSendable history.files
  pub counts : CountsStandFor uplink.counts history.files
  pub frames : SentFramesStandFor uplink.counters uplink.sending history.files history.given
  pub given : length history.blocks ≤ history.given
  pub blocks : AreSentFor (take (length history.blocks) (sent history.files)) history.blocks
  pub encoder : encoders.LineEncoderStandsFor uplink.encoder line (bits_of_blocks history.blocks)
