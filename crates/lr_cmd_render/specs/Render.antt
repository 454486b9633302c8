-- `render`: the images of all files as PGM, in the order of the entries.
use Rattle.std.specs.Prelude.{ℕ, Bool, true, false, not, Option, Some, Result, Ok, List, [], count_by}
use Rattle.lr_image.specs.Pgm.{pgm_text}
use Rattle.lr_image.specs.Picture.{Picture}
use Rattle.lr_image.specs.declared.fault.ImageFault.{ImageFault}
use Rattle.lr_causes.specs.declared.note.Note.TheVariants.{Rendered}
use Rattle.lr_cmd_shelf.specs.declared.opened.Opened.{Opened}
use Rattle.lr_cmd_shelf.specs.Looking.{each_image}
use Rattle.lr_cmd_shelf.specs.Queries.{Query}
use Rattle.lr_cmd_shelf.specs.Files.{FileQuery, all_entries, query_of_files, no_text}

-- the text of an image; a file that has none has no text
abbrev pub image_text : Option (Result Picture ImageFault) → List ℕ
image_text (Some (Ok picture)) = pgm_text picture
image_text _ = []

abbrev pub is_image : Option (Result Picture ImageFault) → Bool
is_image (Some (Ok picture)) = true
is_image _ = false

-- how many files have an image, and how many have none
abbrev pub images_in : List Opened → ℕ
images_in read = count_by (λ opened. is_image opened.image) read

abbrev pub skipped_in : List Opened → ℕ
skipped_in read = count_by (λ opened. not (is_image opened.image)) read

abbrev pub render_files_query : FileQuery
render_files_query = record {
  range = all_entries;
  sees = each_image;
  fate = λ read number opened. Ok (image_text opened.image);
  gone = λ number. no_text;
  last = λ way read. no_text;
  note = λ read. Some (Rendered (images_in read) (skipped_in read));
}

abbrev pub render_query : Query
render_query = query_of_files render_files_query
