-- `extract N`: the mission file proper.
use Rattle.std.specs.Prelude.{ℕ, Result, Ok, List}
use Rattle.lr_bits.specs.File.{proper_of}
use Rattle.lr_causes.specs.declared.cause.Refusal.{Refusal}
use Rattle.lr_cmd_shelf.specs.declared.opened.Opened.{Opened}
use Rattle.lr_cmd_shelf.specs.Queries.{Query, no_image}
use Rattle.lr_cmd_shelf.specs.Files.{query_of_files, query_of_one}

-- its bytes without the transport header
abbrev pub extract_fate : ℕ → Opened → Result (List ℕ) Refusal
extract_fate number opened = Ok (proper_of opened.stored.file)

abbrev pub extract_query : ℕ → Query
extract_query number = query_of_files (query_of_one no_image extract_fate number)
