-- A mission file that comes onto the shelf, with what its line notes.
use Rattle.std.specs.Prelude.{ℕ, ◌==◌, if◌then◌else◌, Option, Some, None, List, [], ◌∷◌, map}
use Rattle.lr_bits.specs.declared.outcome.Outcome.{Outcome}
use Rattle.lr_bits.specs.declared.placed.Placed.{Placed}
use Rattle.lr_layers.specs.Origins.{MarkedPlaced, marked_of_outcomes}

-- a file, and how many fillers it has, if its line notes them
pub record NotedFile : Type 0 where
  pub placed : Placed
  pub fillers : Option ℕ

abbrev pub noted_file : Placed → Option ℕ → NotedFile
noted_file placed fillers = record { placed = placed; fillers = fillers }

abbrev pub placed_of : NotedFile → Placed
placed_of noted = noted.placed

-- the files alone
abbrev pub placed_files : List NotedFile → List Placed
placed_files files = map placed_of files

-- they are noted where images are mended, that is where one may have fillers
abbrev pub noted_where : ℕ → MarkedPlaced → NotedFile
noted_where mend marked =
    record { placed = marked.placed; fillers = if mend == 0 then None else Some marked.fillers }

-- the files of these outcomes, where an image has at most `mend` fillers
unfoldable pub noted_of_outcomes : ℕ → List Outcome → List NotedFile
noted_of_outcomes mend outcomes = map (noted_where mend) (marked_of_outcomes mend outcomes)

-- these files, and how many fillers the first ones of them have
abbrev pub noted_with : List Placed → List ℕ → List NotedFile
noted_with [] fillers = []
noted_with (placed ∷ files) [] = noted_file placed None ∷ noted_with files []
noted_with (placed ∷ files) (count ∷ fillers) = noted_file placed (Some count) ∷ noted_with files fillers
