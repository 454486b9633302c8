-- `list`: a line for each entry, and a last one for the shelf.
use Rattle.std.specs.Prelude.{Ok, length}
use Rattle.lr_catalog.specs.Discards.{gone_line}
use Rattle.lr_catalog.specs.Entries.{file_line, shelf_line}
use Rattle.lr_cmd_shelf.specs.Queries.{Query, no_image}
use Rattle.lr_cmd_shelf.specs.Files.{FileQuery, all_entries, query_of_files, no_note}

abbrev pub list_files_query : FileQuery
list_files_query = record {
  range = all_entries;
  sees = no_image;
  fate = λ read number opened. Ok (file_line number opened.stored.file opened.stored.origin);
  gone = λ number. Ok (gone_line number);
  last = λ way read. Ok (shelf_line (length way.entries) way.end way.capacity);
  note = no_note;
}

abbrev pub list_query : Query
list_query = query_of_files list_files_query
