-- The words of a command in the lines of a text, and what a call answers that runs no command.
use Rattle.std.specs.List.{slice_split}
use Rattle.std.specs.Prelude.{◌==◌, ℕ, List}

-- the words of a text, one in each line
abbrev pub words_in : List ℕ → List (List ℕ)
words_in text = slice_split (λ b. b == 10) text

-- the answers that are no status: memory was refused, and the words aren't UTF-8
abbrev pub no_memory : ℕ
no_memory = 256

abbrev pub no_text_given : ℕ
no_text_given = 257
