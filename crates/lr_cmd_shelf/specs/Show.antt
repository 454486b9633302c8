-- `show N`: the line of a file, and the lines of its header.
use Rattle.std.specs.Prelude.{ℕ, Result, Ok, List, ◌++◌}
use Rattle.lr_bits.specs.File.{proper_of}
use Rattle.lr_catalog.specs.Entries.{file_line}
use Rattle.lr_catalog.specs.Records.{header_lines}
use Rattle.lr_shelf_format.specs.declared.stored.Stored.{Stored}
use Rattle.lr_causes.specs.declared.cause.Refusal.{Refusal}
use Rattle.lr_cmd_shelf.specs.declared.opened.Opened.{Opened}
use Rattle.lr_cmd_shelf.specs.Queries.{Query, no_image}
use Rattle.lr_cmd_shelf.specs.Files.{query_of_files, query_of_one}

abbrev pub show_text : ℕ → Stored → List ℕ
show_text number stored = file_line number stored.file stored.origin ++ header_lines (proper_of stored.file)

abbrev pub show_fate : ℕ → Opened → Result (List ℕ) Refusal
show_fate number opened = Ok (show_text number opened.stored)

abbrev pub show_query : ℕ → Query
show_query number = query_of_files (query_of_one no_image show_fate number)
