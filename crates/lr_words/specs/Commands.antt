-- Which command the words give, if they give one.
use Rattle.std.specs.Prelude.{◌-◌, ◌≡◌, ◌⊎◌, ◌≤◌, ◌^◌, ◌==◌, ℕ, Bool, true, false, List, [], ◌∷◌, Option}
use Rattle.std.specs.Prelude.{Some, None, IsSome, if◌then◌else◌, option_map, option_and_then, codes}
use Rattle.clap.specs.Words.{Text}
use Rattle.lr_bits.specs.Sizes.{most_u64}
use Rattle.lr_shelf_format.specs.Header.{least_capacity, most_capacity}
use Rattle.lr_shelf_format.specs.Header.{IsCapacity}
use Rattle.lr_forms.specs.declared.forms.Decoding.{Decoding}
use Rattle.lr_forms.specs.declared.forms.Input.{Input}
use Rattle.lr_words.specs.Arguments.{app_of_shape}
use Rattle.lr_words.specs.Numbers.{number_given}
use Rattle.lr_words.specs.Shapes.{shape_named, can_write, runs_alone}
use Rattle.lr_mend.specs.Mending.{most_fillers}
use Rattle.lr_words.specs.Values.{coded_input, any_input, output_of, mend_given, most_of, most_workers, workers_given}
use Rattle.lr_words.specs.Values.{decoding_given, line_code_given}
use Rattle.lr_words.specs.Words.{is_taken, argument_value}
use Rattle.lr_words.specs.declared.shape.Shape.{Shape}
use Rattle.lr_words.specs.declared.shape.Shape.TheVariants.{Capacity, Nothing, Number, Symbols}
use Rattle.lr_words.specs.declared.shape.Shape.TheVariants.{Intake as IntakeWords, MendedIntake, Line, Workers}
use Rattle.lr_words.specs.declared.shape.Shape.TheVariants.{Segments, Sent, Block, Made, Tried}
use Rattle.lr_words.specs.declared.command.FileAction.TheVariants.{Discard}
use Rattle.lr_words.specs.declared.command.IntakeAction.{IntakeAction}
use Rattle.lr_words.specs.declared.command.IntakeAction.TheVariants.{Decode, Receive}
use Rattle.lr_words.specs.declared.command.Command.{Command}
use Rattle.lr_words.specs.declared.command.Command.TheVariants.{Init, Frames, Intake, Downlinks}
use Rattle.lr_words.specs.declared.command.Command.TheVariants.{OnShelf, OnFile, Render, Assemble}
use Rattle.lr_words.specs.declared.command.Command.TheVariants.{Transmit, Repack, Make, Trial}

-- the greatest application identifier that isn't the one of idle packets
abbrev pub most_apid : ℕ
most_apid = 2046

-- the greatest image identifier of a segment record, a number of 16 bits
abbrev pub most_image : ℕ
most_image = 2 ^ 16 - 1

-- the most wrong bytes that each word of a test stream or of sent symbols has: as many as are corrected
abbrev pub most_wrong : ℕ
most_wrong = 16

-- the most frames of a test stream, and of one that `trial` receives
abbrev pub most_made_frames : ℕ
most_made_frames = 2 ^ 16

abbrev pub most_tried_frames : ℕ
most_tried_frames = 1024

-- `decode` reads no frames
abbrev pub input_of : IntakeAction → Decoding → Option Text → Option Input
input_of Decode = coded_input
input_of (Receive mend) = any_input

-- a block has 8, 16, 32 or 64 samples
abbrev pub block_of : ℕ → Option ℕ
block_of n =
    if n == 8 then Some 8 else if n == 16 then Some 16 else if n == 32 then Some 32
    else if n == 64 then Some 64 else None

-- the number that is given by an argument which has to be there
abbrev pub required_number : (Text → Option Text) → Text → ℕ → ℕ → Option ℕ
required_number value id low high = number_given low high (value id)

-- The work on a stream. `--line`, `--g2` and `--passes` are read in each form of it, and say something of symbols
-- alone.
abbrev pub intake_given : IntakeAction → (Text → Option Text) → Option Command
intake_given action value =
    option_and_then (λ w. option_and_then (λ decoding. option_and_then (λ input.
    option_map (λ n. Intake action input w n)
    (most_of (value (codes "symbols"))))
    (input_of action decoding (value (codes "input"))))
    (decoding_given (value (codes "line")) (value (codes "g2")) (value (codes "passes"))))
    (workers_given (value (codes "workers")))

-- The command of words that look like this, where each argument has this value.
abbrev pub given_by : Shape → (Text → Option Text) → Option Command
given_by Capacity value =
    option_map (λ n. Init n) (required_number value (codes "capacity") least_capacity most_capacity)
given_by (Nothing action) value = Some (OnShelf action)
given_by (Number action) value =
    option_map (λ n. OnFile action n) (required_number value (codes "number") 0 most_u64)
given_by (Symbols lines) value = option_map (λ n. Frames lines n) (most_of (value (codes "symbols")))
given_by IntakeWords value = intake_given Decode value
given_by MendedIntake value =
    option_and_then (λ mend. intake_given (Receive mend) value) (mend_given (value (codes "mend")))
given_by Line value = option_map (λ line. Downlinks line) (line_code_given (value (codes "line")) (value (codes "g2")))
given_by Workers value = option_map (λ w. Render w) (workers_given (value (codes "workers")))
given_by Segments value =
    option_and_then (λ f. option_and_then (λ t. option_and_then (λ a. option_map (λ i. Assemble f t a i)
    (required_number value (codes "image") 0 most_image))
    (required_number value (codes "apid") 0 most_apid))
    (required_number value (codes "to") 0 most_u64))
    (required_number value (codes "from") 0 most_u64)
given_by Sent value =
    option_and_then (λ f. option_and_then (λ t. option_and_then (λ w. option_map (λ line. Transmit f t w line)
    (line_code_given (value (codes "line")) (value (codes "g2"))))
    (required_number value (codes "wrong") 0 most_wrong))
    (required_number value (codes "to") 0 most_u64))
    (required_number value (codes "from") 0 most_u64)
given_by Block value =
    option_and_then (λ n. option_and_then (λ b. option_map (λ block. Repack n block) (block_of b))
    (required_number value (codes "block") 0 most_u64))
    (required_number value (codes "number") 0 most_u64)
given_by Made value =
    option_and_then (λ s. option_and_then (λ f. option_and_then (λ w. option_map (λ form. Make s f w form)
    (output_of (value (codes "output"))))
    (required_number value (codes "wrong") 0 most_wrong))
    (required_number value (codes "frames") 1 most_made_frames))
    (required_number value (codes "start") 0 most_u64)
given_by Tried value =
    option_and_then (λ s. option_and_then (λ f. option_and_then (λ w. option_map (λ k. Trial s f w k)
    (workers_given (value (codes "workers"))))
    (required_number value (codes "wrong") 0 most_wrong))
    (required_number value (codes "frames") 1 most_tried_frames))
    (required_number value (codes "start") 0 most_u64)

-- words that look like this, of which the first is this name
abbrev pub command_shaped : Text → List Text → Option Shape → Option Command
command_shaped name words None = None
command_shaped name words (Some shape) = if is_taken (app_of_shape shape name) words
    then given_by shape (argument_value (app_of_shape shape name) words)
    else None

unfoldable pub command_of : List Text → Option Command
command_of [] = None
command_of (name ∷ rest) = command_shaped name (name ∷ rest) (shape_named name)

-- the first word names a command
abbrev pub IsNamed : List Text → Type 0
IsNamed [] = ⊥
IsNamed (name ∷ rest) = IsSome (shape_named name)

-- whether the first word names a command that runs on one thread
abbrev pub alone_when : Option Shape → Bool
alone_when None = false
alone_when (Some shape) = runs_alone shape

abbrev pub runs_alone_by : List Text → Bool
runs_alone_by [] = false
runs_alone_by (name ∷ rest) = alone_when (shape_named name)

-- whether the first word names a command that may change the shelf
abbrev pub writes_when : Option Shape → Bool
writes_when None = false
writes_when (Some shape) = can_write shape

abbrev pub writes_shelf : List Text → Bool
writes_shelf [] = false
writes_shelf (name ∷ rest) = writes_when (shape_named name)

-- whether this command may change the shelf
abbrev pub may_write : Command → Bool
may_write (Init capacity) = true
may_write (Intake (Receive mend) input workers most) = true
may_write (Downlinks line) = true
may_write (OnFile Discard number) = true
may_write (Repack number block) = true
may_write (Trial start frames wrong workers) = true
may_write command = false

-- words by which the shelf isn't written give no command that may change it
abbrev pub OnlyWritersMayWrite : Type 0
OnlyWritersMayWrite = (words : List Text) → writes_shelf words ≡ false
    → (command : Command) → command_of words ≡ Some command → may_write command ≡ false

-- this many may work on windows, the caller among them
abbrev pub IsWorkerCount : ℕ → Type 0
IsWorkerCount workers = (1 ≤ workers) × (workers ≤ most_workers)

-- how many fillers an image may have at most
abbrev pub MayHaveFillers : IntakeAction → Type 0
MayHaveFillers Decode = Unit {0}
MayHaveFillers (Receive mend) = mend ≤ most_fillers

-- The numbers of a command are in their ranges.
abbrev pub IsInRange : Option Command → Type 0
IsInRange (Some (Init capacity)) = IsCapacity capacity
IsInRange (Some (Frames lines most)) = most ≤ 2 ^ 48
IsInRange (Some (Intake action input workers most)) =
    MayHaveFillers action × (most ≤ 2 ^ 48) × IsWorkerCount workers
IsInRange (Some (Render workers)) = IsWorkerCount workers
IsInRange (Some (Assemble from to apid image)) = (apid ≤ most_apid) × (image ≤ most_image)
IsInRange (Some (Transmit from to wrong line)) = wrong ≤ most_wrong
IsInRange (Some (Repack number block)) = (block ≡ 8) ⊎ ((block ≡ 16) ⊎ ((block ≡ 32) ⊎ (block ≡ 64)))
IsInRange (Some (Make start frames wrong form)) = (frames ≤ most_made_frames) × (wrong ≤ most_wrong)
IsInRange (Some (Trial start frames wrong workers)) = ((frames ≤ most_tried_frames) × (wrong ≤ most_wrong))
    × IsWorkerCount workers
IsInRange _ = Unit {0}
