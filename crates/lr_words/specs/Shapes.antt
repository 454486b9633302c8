-- The commands by name, and what the words after each name look like.
use Rattle.std.specs.Prelude.{Bool, true, false, Option, Some, None, codes, if◌then◌else◌}
use Rattle.std.specs.Str.{bytes_eq}
use Rattle.clap.specs.Words.{Text}
use Rattle.lr_words.specs.declared.shape.Shape.{Shape}
use Rattle.lr_words.specs.declared.shape.Shape.TheVariants.{Capacity, Nothing, Number, Symbols}
use Rattle.lr_words.specs.declared.shape.Shape.TheVariants.{Intake, MendedIntake, Line, Workers, Segments, Sent}
use Rattle.lr_words.specs.declared.shape.Shape.TheVariants.{Block, Made, Tried}
use Rattle.lr_words.specs.declared.command.FileAction.TheVariants.{Extract, Show, Export, Discard}
use Rattle.lr_words.specs.declared.command.FrameLines.TheVariants.{Frames, Packets}
use Rattle.lr_words.specs.declared.command.ShelfAction.TheVariants.{List as ListAll, Verify}

-- what the words after this name look like, if it names a command
abbrev pub shape_named : Text → Option Shape
shape_named name =
    if bytes_eq name (codes "init") then Some Capacity
    else if bytes_eq name (codes "receive") then Some MendedIntake
    else if bytes_eq name (codes "downlinks") then Some Line
    else if bytes_eq name (codes "list") then Some (Nothing ListAll)
    else if bytes_eq name (codes "show") then Some (Number Show)
    else if bytes_eq name (codes "extract") then Some (Number Extract)
    else if bytes_eq name (codes "export") then Some (Number Export)
    else if bytes_eq name (codes "render") then Some Workers
    else if bytes_eq name (codes "assemble") then Some Segments
    else if bytes_eq name (codes "verify") then Some (Nothing Verify)
    else if bytes_eq name (codes "discard") then Some (Number Discard)
    else if bytes_eq name (codes "repack") then Some Block
    else if bytes_eq name (codes "transmit") then Some Sent
    else if bytes_eq name (codes "decode") then Some Intake
    else if bytes_eq name (codes "frames") then Some (Symbols Frames)
    else if bytes_eq name (codes "packets") then Some (Symbols Packets)
    else if bytes_eq name (codes "make") then Some Made
    else if bytes_eq name (codes "trial") then Some Tried
    else None

-- whether a command whose words look like this runs on one thread: all but `downlinks`
abbrev pub runs_alone : Shape → Bool
runs_alone Line = false
runs_alone _ = true

-- whether a command whose words look like this may change the shelf
abbrev pub can_write : Shape → Bool
can_write Capacity = true
can_write MendedIntake = true
can_write Line = true
can_write (Number Discard) = true
can_write Block = true
can_write Tried = true
can_write _ = false
