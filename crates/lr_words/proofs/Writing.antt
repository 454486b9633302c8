-- Words by which the shelf isn't written give no command that may change it.
use Rattle.std.proofs.Common.{◌≡◌, ℕ, Bool, true, false, cond, Option, Some, None, List, [], ◌∷◌, refl, subst}
use Rattle.std.specs.Prelude.{codes, option_map, option_and_then, IfSome}
use Rattle.clap.specs.Words.{Text}
use Rattle.lr_words.specs.Arguments.{app_of_shape}
use Rattle.lr_bits.specs.Sizes.{most_u64}
use Rattle.lr_words.specs.Commands.{command_of, command_shaped, given_by, input_of, may_write, required_number}
use Rattle.lr_words.specs.Commands.{most_apid, most_image, most_made_frames, most_wrong, writes_shelf, writes_when}
use Rattle.lr_words.specs.Values.{decoding_given, line_code_given, most_of, output_of, workers_given}
use Rattle.lr_words.specs.Shapes.{can_write, shape_named}
use Rattle.lr_words.specs.Words.{argument_value, is_taken}
use Rattle.lr_conv.specs.declared.line.LineCode.{LineCode}
use Rattle.lr_forms.specs.declared.forms.Decoding.{Decoding}
use Rattle.lr_forms.specs.declared.forms.Input.{Input}
use Rattle.lr_forms.specs.declared.forms.Output.{Output}
use Rattle.lr_words.specs.declared.command.Command.{Command}
use Rattle.lr_words.specs.declared.command.Command.TheVariants.{Frames, Intake, OnFile, Render}
use Rattle.lr_words.specs.declared.command.Command.TheVariants.{Assemble, Transmit, Make}
use Rattle.lr_words.specs.declared.command.FileAction.{FileAction}
use Rattle.lr_words.specs.declared.command.FileAction.TheVariants.{Extract, Show, Export, Discard}
use Rattle.lr_words.specs.declared.command.FrameLines.{FrameLines}
use Rattle.lr_words.specs.declared.command.IntakeAction.TheVariants.{Decode}
use Rattle.lr_words.specs.declared.shape.Shape.{Shape}
use Rattle.lr_words.specs.declared.shape.Shape.TheVariants.{Capacity, Nothing, Number, Symbols}
use Rattle.lr_words.specs.declared.shape.Shape.TheVariants.{Intake as IntakeWords, MendedIntake, Line, Workers}
use Rattle.lr_words.specs.declared.shape.Shape.TheVariants.{Segments, Sent, Block, Made, Tried}

-- it isn't one that may change the shelf, if there is one
abbrev Reads : Option Command → Type 0
Reads command = IfSome command (λ c. may_write c ≡ false)

on_file : (action : FileAction) → can_write (Number action) ≡ false → (number : Option ℕ)
    → Reads (option_map (λ n. OnFile action n) number)
on_file Extract none None = tt
on_file Extract none (Some n) = refl
on_file Show none None = tt
on_file Show none (Some n) = refl
on_file Export none None = tt
on_file Export none (Some n) = refl
on_file Discard none number = absurd (cc (none))

frames : (lines : FrameLines) (most : Option ℕ) → Reads (option_map (λ n. Frames lines n) most)
frames lines None = tt
frames lines (Some n) = refl

decode : (workers : Option ℕ) (decoding : Option Decoding) (input : Decoding → Option Input) (most : Option ℕ)
    → Reads (option_and_then (λ w. option_and_then (λ l. option_and_then (λ i. option_map (λ n. Intake Decode i w n)
    most) (input l)) decoding) workers)
decode None decoding input most = tt
decode (Some w) None input most = tt
decode (Some w) (Some l) input most = by (input l) most where
  by : (i : Option Input) (most : Option ℕ)
      → Reads (option_and_then (λ i. option_map (λ n. Intake Decode i w n) most) i)
  by None most = tt
  by (Some i) None = tt
  by (Some i) (Some n) = refl

render : (workers : Option ℕ) → Reads (option_map (λ w. Render w) workers)
render None = tt
render (Some w) = refl

assemble : (from to apid image : Option ℕ)
    → Reads (option_and_then (λ f. option_and_then (λ t. option_and_then (λ a. option_map (λ i. Assemble f t a i)
    image) apid) to) from)
assemble None to apid image = tt
assemble (Some f) None apid image = tt
assemble (Some f) (Some t) None image = tt
assemble (Some f) (Some t) (Some a) None = tt
assemble (Some f) (Some t) (Some a) (Some i) = refl

transmit : (from to wrong : Option ℕ) (line : Option LineCode)
    → Reads (option_and_then (λ f. option_and_then (λ t. option_and_then (λ w. option_map (λ l. Transmit f t w l)
    line) wrong) to) from)
transmit None to wrong line = tt
transmit (Some f) None wrong line = tt
transmit (Some f) (Some t) None line = tt
transmit (Some f) (Some t) (Some w) None = tt
transmit (Some f) (Some t) (Some w) (Some l) = refl

make : (start frames wrong : Option ℕ) (form : Option Output)
    → Reads (option_and_then (λ s. option_and_then (λ f. option_and_then (λ w. option_map (λ o. Make s f w o)
    form) wrong) frames) start)
make None frames wrong form = tt
make (Some s) None wrong form = tt
make (Some s) (Some f) None form = tt
make (Some s) (Some f) (Some w) None = tt
make (Some s) (Some f) (Some w) (Some o) = refl

by_shape : (shape : Shape) → can_write shape ≡ false → (value : Text → Option Text) → Reads (given_by shape value)
by_shape Capacity none value = absurd (cc (none))
by_shape (Nothing action) none value = refl
by_shape (Number action) none value = on_file action none (required_number value (codes "number") 0 most_u64)
by_shape (Symbols lines) none value = frames lines (most_of (value (codes "symbols")))
by_shape IntakeWords none value =
    decode (workers_given (value (codes "workers"))) (decoding_given (value (codes "line")) (value (codes "g2"))
    (value (codes "passes"))) (λ decoding. input_of Decode decoding (value (codes "input")))
    (most_of (value (codes "symbols")))
by_shape MendedIntake none value = absurd (cc (none))
by_shape Line none value = absurd (cc (none))
by_shape Workers none value = render (workers_given (value (codes "workers")))
by_shape Segments none value =
    assemble (required_number value (codes "from") 0 most_u64) (required_number value (codes "to") 0 most_u64)
    (required_number value (codes "apid") 0 most_apid) (required_number value (codes "image") 0 most_image)
by_shape Sent none value =
    transmit (required_number value (codes "from") 0 most_u64) (required_number value (codes "to") 0 most_u64)
    (required_number value (codes "wrong") 0 most_wrong)
    (line_code_given (value (codes "line")) (value (codes "g2")))
by_shape Block none value = absurd (cc (none))
by_shape Made none value =
    make (required_number value (codes "start") 0 most_u64)
    (required_number value (codes "frames") 1 most_made_frames)
    (required_number value (codes "wrong") 0 most_wrong) (output_of (value (codes "output")))
by_shape Tried none value = absurd (cc (none))

taken : (yes : Bool) (command : Option Command) → Reads command → Reads (cond yes command None)
taken true command reads = reads
taken false command reads = tt

shaped : (name : Text) (words : List Text) (shape : Option Shape) → writes_when shape ≡ false
    → Reads (command_shaped name words shape)
shaped name words None none = tt
shaped name words (Some shape) none =
    taken (is_taken (app_of_shape shape name) words) _
    (by_shape shape none (argument_value (app_of_shape shape name) words))

reads : (words : List Text) → writes_shelf words ≡ false → Reads (command_of words)
unfolding command_of
reads [] none = tt
reads (name ∷ rest) none = shaped name (name ∷ rest) (shape_named name) none

pub only_writers : (words : List Text) → writes_shelf words ≡ false → (command : Command)
    → command_of words ≡ Some command → may_write command ≡ false
only_writers words none command is = subst Reads is (reads words none)
