-- The values of the options that several commands have, and what stands where an option isn't given.
use Rattle.std.specs.Prelude.{◌^◌, ◌==◌, ℕ, Bool, true, false, Option, Some, None, codes, if◌then◌else◌}
use Rattle.std.specs.Prelude.{option_map, option_and_then}
use Rattle.std.specs.Str.{bytes_eq}
use Rattle.clap.specs.Words.{Text}
use Rattle.lr_conv.specs.declared.line.LineCode.{LineCode}
use Rattle.lr_conv.specs.declared.passes.Passes.{Passes}
use Rattle.lr_conv.specs.declared.passes.Passes.TheVariants.{One, Two, Three, Four}
use Rattle.lr_forms.specs.declared.forms.Decoding.{Decoding}
use Rattle.lr_forms.specs.declared.forms.Input.{Input}
use Rattle.lr_forms.specs.declared.forms.Input.TheVariants.{Symbols, Units}
use Rattle.lr_forms.specs.declared.forms.UnitForm.TheVariants.{Blocks, Frames}
use Rattle.lr_forms.specs.declared.forms.Output.{Output}
use Rattle.lr_forms.specs.declared.forms.Output.TheVariants.{Symbols as AsSymbols, Units as AsUnits}
use Rattle.lr_mend.specs.Mending.{most_fillers}
use Rattle.lr_words.specs.Numbers.{number_between, number_in_text, number_or}

-- `--input` of `decode`; how symbols are decoded is told by other options
abbrev pub coded_input : Decoding → Option Text → Option Input
coded_input decoding None = Some (Symbols decoding)
coded_input decoding (Some text) =
    if bytes_eq text (codes "symbols") then Some (Symbols decoding)
    else if bytes_eq text (codes "blocks") then Some (Units Blocks)
    else None

-- `--input` of `receive`
abbrev pub any_input : Decoding → Option Text → Option Input
any_input decoding None = Some (Symbols decoding)
any_input decoding (Some text) =
    if bytes_eq text (codes "symbols") then Some (Symbols decoding)
    else if bytes_eq text (codes "blocks") then Some (Units Blocks)
    else if bytes_eq text (codes "frames") then Some (Units Frames)
    else None

-- `--output` of `make`
abbrev pub output_of : Option Text → Option Output
output_of None = Some AsSymbols
output_of (Some text) =
    if bytes_eq text (codes "symbols") then Some AsSymbols
    else if bytes_eq text (codes "blocks") then Some (AsUnits Blocks)
    else if bytes_eq text (codes "frames") then Some (AsUnits Frames)
    else None

-- `--line`: whether a 1 is a change of level
abbrev pub marks_given : Option Text → Option Bool
marks_given None = Some false
marks_given (Some text) =
    if bytes_eq text (codes "nrz-l") then Some false
    else if bytes_eq text (codes "nrz-m") then Some true
    else None

-- `--g2`: whether the second symbol of each pair is complemented
abbrev pub inverted_of : Option Text → Option Bool
inverted_of None = Some true
inverted_of (Some text) =
    if bytes_eq text (codes "inverted") then Some true
    else if bytes_eq text (codes "plain") then Some false
    else None

-- the line code of `--line` and `--g2`
abbrev pub line_code_given : Option Text → Option Text → Option LineCode
line_code_given line g2 =
    option_and_then (λ marks. option_map (λ inverted. record { marks = marks; inverted = inverted })
    (inverted_of g2)) (marks_given line)

-- `--passes`: how many passes are made over the window of a frame
abbrev pub passes_of : ℕ → Option Passes
passes_of n =
    if n == 1 then Some One else if n == 2 then Some Two else if n == 3 then Some Three
    else if n == 4 then Some Four else None

abbrev pub passes_given : Option Text → Option Passes
passes_given None = Some One
passes_given (Some text) = option_and_then passes_of (number_in_text text)

-- how symbols are decoded, by `--line`, `--g2` and `--passes`
abbrev pub decoding_given : Option Text → Option Text → Option Text → Option Decoding
decoding_given line g2 passes =
    option_and_then (λ code. option_map (λ n. record { line = code; passes = n }) (passes_given passes))
    (line_code_given line g2)

-- the greatest number of `--symbols`, which is also what stands where the option isn't given
abbrev pub most_symbols : ℕ
most_symbols = 2 ^ 40

-- `--symbols`: the most bytes that are taken
abbrev pub most_of : Option Text → Option ℕ
most_of = number_or 0 most_symbols most_symbols

-- the greatest number of `--workers`
abbrev pub most_workers : ℕ
most_workers = 64

-- `--workers`: how many work on windows
abbrev pub workers_given : Option Text → Option ℕ
workers_given = number_or 1 most_workers 1

-- `--mend`: how many fillers an image may have; where it isn't given, none is mended
abbrev pub mend_given : Option Text → Option ℕ
mend_given None = Some 0
mend_given (Some text) = number_between 1 most_fillers text
