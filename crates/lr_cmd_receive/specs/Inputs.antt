-- The files of the bytes that a call reads.
use Rattle.std.specs.Prelude.{ℕ, List}
use Rattle.lr_forms.specs.declared.forms.Input.{Input}
use Rattle.lr_reading.specs.Inputs.{outcomes_of_bytes}
use Rattle.lr_cmd_receive.specs.Noted.{NotedFile, noted_of_outcomes}

-- the files of the bytes read, where an image has at most `mend` fillers: the mission files of their outcomes, with
-- their origins
unfoldable pub files_of_bytes : ℕ → Input → List ℕ → List NotedFile
files_of_bytes mend input bytes = noted_of_outcomes mend (outcomes_of_bytes input bytes)
