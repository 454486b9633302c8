-- The arguments of commands, in `clap`'s words.
use Rattle.std.specs.Prelude.{true, List, [], ◌∷◌, Some, codes}
use Rattle.clap.specs.Words.{App, Rule, Text, new_app, new_rule, with_rule}
use Rattle.lr_words.specs.declared.shape.Shape.{Shape}
use Rattle.lr_words.specs.declared.shape.Shape.TheVariants.{Capacity, Nothing, Number, Symbols}
use Rattle.lr_words.specs.declared.shape.Shape.TheVariants.{Intake, MendedIntake, Line, Workers, Segments, Sent}
use Rattle.lr_words.specs.declared.shape.Shape.TheVariants.{Block, Made, Tried}

-- an argument that has to be there, by its place
abbrev pub place : Text → Rule
place id = record (new_rule id) { required = true }

-- an option with one value, `--id VALUE` or `--id=VALUE`
abbrev pub option : Text → Rule
option id = record (new_rule id) { long = Some id }

-- the command of this name with these arguments
abbrev pub app_with : App → List Rule → App
app_with app [] = app
app_with app (rule ∷ rules) = app_with (with_rule app rule) rules

-- `CAPACITY`
unfoldable pub capacity_app : Text → App
capacity_app name = app_with (new_app name) (place (codes "capacity") ∷ [])

-- `NUMBER`
unfoldable pub number_app : Text → App
number_app name = app_with (new_app name) (place (codes "number") ∷ [])

-- `[--symbols N]`
unfoldable pub symbols_app : Text → App
symbols_app name = app_with (new_app name) (option (codes "symbols") ∷ [])

-- `[--input FORM] [--workers W] [--symbols N] [--line CODE] [--g2 G2] [--passes N]`
unfoldable pub intake_app : Text → App
intake_app name = app_with (new_app name) (option (codes "input") ∷ option (codes "workers")
    ∷ option (codes "symbols") ∷ option (codes "line") ∷ option (codes "g2") ∷ option (codes "passes") ∷ [])

-- the same, and `[--mend N]`
unfoldable pub mended_app : Text → App
mended_app name = with_rule (intake_app name) (option (codes "mend"))

-- `[--line CODE] [--g2 G2]`
unfoldable pub line_app : Text → App
line_app name = app_with (new_app name) (option (codes "line") ∷ option (codes "g2") ∷ [])

-- `[--workers W]`
unfoldable pub workers_app : Text → App
workers_app name = app_with (new_app name) (option (codes "workers") ∷ [])

-- `FROM TO APID IMAGE`
unfoldable pub segments_app : Text → App
segments_app name = app_with (new_app name) (place (codes "from") ∷ place (codes "to")
    ∷ place (codes "apid") ∷ place (codes "image") ∷ [])

-- `FROM TO WRONG [--line CODE] [--g2 G2]`
unfoldable pub sent_app : Text → App
sent_app name = app_with (new_app name) (place (codes "from") ∷ place (codes "to")
    ∷ place (codes "wrong") ∷ option (codes "line") ∷ option (codes "g2") ∷ [])

-- `NUMBER BLOCK`
unfoldable pub block_app : Text → App
block_app name = app_with (new_app name) (place (codes "number") ∷ place (codes "block") ∷ [])

-- `START FRAMES WRONG [--LAST VALUE]`
unfoldable pub stream_app : Text → Text → App
stream_app name last = app_with (new_app name) (place (codes "start") ∷ place (codes "frames")
    ∷ place (codes "wrong") ∷ option last ∷ [])

-- the command of this name whose words look like this
abbrev pub app_of_shape : Shape → Text → App
app_of_shape Capacity name = capacity_app name
app_of_shape (Nothing kind) name = new_app name
app_of_shape (Number kind) name = number_app name
app_of_shape (Symbols kind) name = symbols_app name
app_of_shape Intake name = intake_app name
app_of_shape MendedIntake name = mended_app name
app_of_shape Line name = line_app name
app_of_shape Workers name = workers_app name
app_of_shape Segments name = segments_app name
app_of_shape Sent name = sent_app name
app_of_shape Block name = block_app name
app_of_shape Made name = stream_app name (codes "output")
app_of_shape Tried name = stream_app name (codes "workers")
