-- What `make` writes, and what it does to the outside.
use Rattle.std.specs.Prelude.{ℕ, List}
use Rattle.lr_io.specs.declared.sink.Sink.{Ghosts as SinkOf}
use Rattle.lr_make.specs.Stream.{frame_stream, block_stream, symbol_stream}
use Rattle.lr_make.specs.Symbols.{bytes_of_symbols}
use Rattle.lr_causes.specs.declared.cause.Cause.{Cause}
use Rattle.lr_causes.specs.declared.cause.Cause.TheVariants.{Done, Failed}
use Rattle.lr_causes.specs.declared.cause.Party.TheVariants.{Output}
use Rattle.lr_causes.specs.Puts.{PutFails, Puts}
use Rattle.lr_forms.specs.declared.forms.Output.{Output as Form}
use Rattle.lr_forms.specs.declared.forms.Output.TheVariants.{Symbols, Units}
use Rattle.lr_forms.specs.declared.forms.UnitForm.TheVariants.{Blocks, Frames}
use Rattle.lr_cmd_receive.specs.declared.test_stream.TestFrames.{TestFrames}

abbrev pub test_frames : (start frames wrong : ℕ) → TestFrames
test_frames start frames wrong = record { start = start; frames = frames; wrong = wrong }

-- the frames of a test stream in each form; as frames they have no wrong bytes
unfoldable pub made_bytes : Form → TestFrames → List ℕ
made_bytes Symbols made = bytes_of_symbols (symbol_stream made.start made.wrong made.frames)
made_bytes (Units Blocks) made = block_stream made.start made.wrong made.frames
made_bytes (Units Frames) made = frame_stream made.start made.frames

-- how the call ends: `out` got these bytes, or it failed and got a prefix of them that isn't all of them
module _ {O : Type 0} (out : SinkOf O) (bytes : List ℕ) where
  abbrev pub MakeEnds : Cause → O → O → Type 0
  MakeEnds Done o o' = Puts out bytes o o'
  MakeEnds (Failed Output) o o' = PutFails out bytes o o'
  MakeEnds _ o o' = ⊥
