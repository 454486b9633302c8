-- What a receiver makes of the frames of files, and of their symbols.
use Rattle.std.specs.Prelude.{◌≡◌, ◌<◌, ℕ, List, map, All}
use Rattle.lr_bits.specs.declared.outcome.Outcome.{Outcome}
use Rattle.lr_bits.specs.declared.sizes.TheConstants.{FILL_CHANNEL}
use Rattle.lr_bits.specs.File.{File, IsFile, bytes_of}
use Rattle.lr_conv.specs.declared.line.LineCode.{LineCode}
use Rattle.lr_frame.specs.Outcomes.{outcomes_of_symbols}
use Rattle.lr_layers.specs.Layers.{files_of_outcomes}
use Rattle.lr_layers.specs.Origins.{placed_of_outcomes}
use Rattle.lr_sent.specs.Sent.{AreRestored, AreSentFor, symbols_of_blocks}
use Rattle.lr_uplink.specs.Sent.{sent}

-- a file of bytes that isn't of the channel of fill
pub record IsSendable (file : File) : Type 0 where
  pub is : IsFile file
  pub channel : file.vc < FILL_CHANNEL
  pub bytes : All (λ byte. byte < 256) (bytes_of file)

-- the files of outcomes are just these files, in their order
pub record AreFilesOf (outcomes : List Outcome) (files : List File) : Type 0 where
  pub are : files_of_outcomes outcomes ≡ files
  pub placed : map (λ placed. placed.file) (placed_of_outcomes outcomes) ≡ files

-- the law: the files of outcomes that are the frames of files, restored, are these files
abbrev pub FilesAreReceived : Type 0
FilesAreReceived =
    (files : List File) (outcomes : List Outcome) → All IsSendable files → AreRestored (sent files) outcomes →
    AreFilesOf outcomes files

-- the law: where blocks are sent for the frames of files, the files of their symbols are these files
abbrev pub SentFilesAreReceived : Type 0
SentFilesAreReceived =
    (line : LineCode) (files : List File) (blocks : List (List ℕ)) → All IsSendable files →
    AreSentFor (sent files) blocks →
    AreFilesOf (outcomes_of_symbols line (symbols_of_blocks line blocks)) files
