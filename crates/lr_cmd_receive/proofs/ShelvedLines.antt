-- The lines of files that are shelved.
use Rattle.std.proofs.Common.{◌≡◌, ℕ, ◌+◌, ◌<◌, Option, Some, None, List, [], ◌∷◌, ◌++◌, length, arith}
use Rattle.lr_bits.specs.File.{File}
use Rattle.lr_catalog.specs.Files.{shelved_line}
use Rattle.lr_cmd_receive.specs.Noted.{NotedFile}
use Rattle.lr_cmd_receive.specs.Shelving.{line_with, mended_line, noted_line, shelved_lines}
use Rattle.lr_reading.proofs.Numbered.{numbered_lines-none, numbered_lines-cons}
use Rattle.lr_reading.proofs.Numbered.{numbered_lines-append, numbered_lines-push}

abbrev line_of : ℕ → NotedFile → List ℕ
line_of number noted = noted_line number noted

pub shelved_lines-none : (number : ℕ) → shelved_lines number [] ≡ []
unfolding shelved_lines
shelved_lines-none number = numbered_lines-none line_of number

pub shelved_lines-cons : (number : ℕ) (noted : NotedFile) (files : List NotedFile)
    → shelved_lines number (noted ∷ files) ≡ noted_line number noted ++ shelved_lines (number + 1) files
unfolding shelved_lines
shelved_lines-cons number noted files = numbered_lines-cons line_of number noted files

pub shelved_lines-append : (number : ℕ) (xs ys : List NotedFile)
    → shelved_lines number (xs ++ ys) ≡ shelved_lines number xs ++ shelved_lines (number + length xs) ys
unfolding shelved_lines
shelved_lines-append number xs ys = numbered_lines-append line_of number xs ys

-- one file more, one line more
pub shelved_lines-push : (number : ℕ) (files : List NotedFile) (noted : NotedFile)
    → shelved_lines number (files ++ noted ∷ [])
    ≡ shelved_lines number files ++ noted_line (number + length files) noted
unfolding shelved_lines
shelved_lines-push number files noted = numbered_lines-push line_of number files noted

-- no line is empty
pub line-some : (number : ℕ) (file : File) (fillers : Option ℕ) → 0 < length (line_with number file fillers)
unfolding shelved_line mended_line
line-some number file None = omega arith
line-some number file (Some fillers) = omega arith
