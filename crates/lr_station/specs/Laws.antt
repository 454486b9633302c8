-- What is true of every run of the top call.
use Rattle.std.specs.Prelude.{◌≡◌, ℕ, false, List, Option, Some}
use Rattle.lr_causes.specs.declared.cause.Cause.{Cause}
use Rattle.lr_causes.specs.Outside.{Outside, World}
use Rattle.lr_disk.specs.Reads.{IsOnlyRead}
use Rattle.lr_station.specs.Effects.{alone}
use Rattle.lr_station.specs.Runs.{RunsOrNot}
use Rattle.lr_words.specs.Commands.{command_of, may_write, writes_shelf}
use Rattle.lr_words.specs.declared.command.Command.{Command}

module _ {S D O : Type 0} (world : World S D O) where
  -- each run of this command leaves every disk only read, whatever it tells
  abbrev pub OnlyReads : Option Command → Type 0
  OnlyReads command = (cause : Cause) (w w' : Outside S D O) → RunsOrNot world command cause w w'
      → IsOnlyRead world.disk w.disk w'.disk

  -- so does a command that may not write
  abbrev pub OnlyWritersWrite : Type 0
  OnlyWritersWrite = (command : Command) → may_write command ≡ false → OnlyReads (Some command)

  -- Words by which the shelf isn't written do so too, also where what they give runs on one thread alone. So a caller
  -- that takes a lock just where `writes_shelf` answers true takes it for each command that may write.
  abbrev pub OnlyWritingWordsWrite : Type 0
  OnlyWritingWordsWrite = (words : List (List ℕ)) → writes_shelf words ≡ false
      → OnlyReads (command_of words) × OnlyReads (alone (command_of words))
