-- What a command does to the outside. Several commands do the same, with other texts.
use Rattle.std.specs.Prelude.{ℕ, List, Option, Some, None}
use Rattle.lr_cmd_shelf.specs.Queries.{Query}
use Rattle.lr_cmd_shelf.specs.Assemble.{assemble_query}
use Rattle.lr_cmd_shelf.specs.Export.{export_query}
use Rattle.lr_cmd_shelf.specs.Extract.{extract_query}
use Rattle.lr_cmd_shelf.specs.List.{list_query}
use Rattle.lr_cmd_shelf.specs.Show.{show_query}
use Rattle.lr_cmd_shelf.specs.Verify.{verify_query}
use Rattle.lr_forms.specs.declared.forms.Output.TheVariants.{Symbols}
use Rattle.lr_cmd_print.specs.Decode.{decode_printed}
use Rattle.lr_cmd_print.specs.Frames.{frames_printed}
use Rattle.lr_cmd_print.specs.Packets.{packets_printed}
use Rattle.lr_cmd_print.specs.Printing.{Printed}
use Rattle.lr_cmd_receive.specs.Made.{made_bytes, test_frames}
use Rattle.lr_cmd_receive.specs.Receive.{ReceiveQuery, receive_query}
use Rattle.lr_cmd_transmit.specs.Transmit.{Sending, sending}
use Rattle.lr_conv.specs.declared.line.LineCode.{LineCode}
use Rattle.lr_words.specs.declared.command.Command.{Command}
use Rattle.lr_words.specs.declared.command.Command.TheVariants.{Init, Frames, Intake, Downlinks}
use Rattle.lr_words.specs.declared.command.Command.TheVariants.{OnShelf, OnFile, Render, Assemble}
use Rattle.lr_words.specs.declared.command.Command.TheVariants.{Transmit, Repack, Make, Trial}
use Rattle.lr_words.specs.declared.command.FileAction.TheVariants.{Extract, Show, Export, Discard}
use Rattle.lr_words.specs.declared.command.FrameLines.TheVariants.{Frames as EachFrame, Packets as EachPacket}
use Rattle.lr_words.specs.declared.command.IntakeAction.TheVariants.{Decode, Receive}
use Rattle.lr_words.specs.declared.command.ShelfAction.TheVariants.{List as ListAll, Verify}

pub data Effect : Type 1 where
  -- an empty shelf of this many bytes is made
  MakesShelf : (capacity : ℕ) → Effect
  -- lines of the bytes read are put
  PutsLines : (printed : Printed) → Effect
  -- the mission files of the bytes read come onto the shelf
  Shelves : (asked : ReceiveQuery) → Effect
  -- the mission files of the recordings of a bundle come onto the shelf, symbols of this line code
  MergesRecordings : (line : LineCode) → Effect
  -- this is asked of the entries of the shelf
  Asks : (query : Query) → Effect
  -- the images of all files are put
  Draws : Effect
  -- the files of these entries are put as symbols
  Sends : (asked : Sending) → Effect
  -- the entry of this number is discarded
  DiscardsEntry : (number : ℕ) → Effect
  -- the image of the file of this number is coded anew in blocks of this many samples, and the new file is added
  Repacks : (number block : ℕ) → Effect
  -- these bytes are put
  PutsBytes : (bytes : List ℕ) → Effect
  -- the files of these symbols come onto a shelf that is made for them
  RunsTrial : (symbols : List ℕ) → Effect

-- How many work on windows changes nothing of what is said, but for how many frames may wait where symbols are read.
abbrev pub effect_of : Command → Effect
effect_of (Init capacity) = MakesShelf capacity
effect_of (Frames EachFrame most) = PutsLines (frames_printed most)
effect_of (Frames EachPacket most) = PutsLines (packets_printed most)
effect_of (Intake Decode input workers most) = PutsLines (decode_printed input workers most)
effect_of (Intake (Receive mend) input workers most) = Shelves (receive_query mend input workers most)
effect_of (Downlinks line) = MergesRecordings line
effect_of (OnFile Extract number) = Asks (extract_query number)
effect_of (OnShelf ListAll) = Asks list_query
effect_of (OnFile Show number) = Asks (show_query number)
effect_of (OnShelf Verify) = Asks verify_query
effect_of (OnFile Export number) = Asks (export_query number)
effect_of (Render workers) = Draws
effect_of (Assemble from to apid image) = Asks (assemble_query from to apid image)
effect_of (Transmit from to wrong line) = Sends (sending from to wrong line)
effect_of (OnFile Discard number) = DiscardsEntry number
effect_of (Repack number block) = Repacks number block
effect_of (Make start frames wrong form) = PutsBytes (made_bytes form (test_frames start frames wrong))
effect_of (Trial start frames wrong workers) = RunsTrial (made_bytes Symbols (test_frames start frames wrong))

-- a command that is known on the caller's thread alone
abbrev pub IsKnownAlone : Option Command → Type 0
IsKnownAlone (Some (Downlinks line)) = ⊥
IsKnownAlone command = Unit {0}

-- On the caller's thread alone `downlinks` is no command, and one works on windows, whatever the words say.
abbrev pub alone : Option Command → Option Command
alone (Some (Downlinks line)) = None
alone (Some (Intake action input workers most)) = Some (Intake action input 1 most)
alone command = command
