-- `export N`: the image of a file as PGM.
use Rattle.std.specs.Prelude.{ℕ, Option, Some, None, Result, Ok, Err, List}
use Rattle.lr_image.specs.Pgm.{pgm_text}
use Rattle.lr_image.specs.Picture.{Picture}
use Rattle.lr_image.specs.declared.fault.ImageFault.{ImageFault}
use Rattle.lr_causes.specs.declared.cause.Refusal.{Refusal}
use Rattle.lr_cmd_shelf.specs.Looking.{each_image}
use Rattle.lr_cmd_shelf.specs.Queries.{Query}
use Rattle.lr_refusals.specs.Errors.{image_fault}
use Rattle.lr_cmd_shelf.specs.declared.opened.Opened.{Opened}
use Rattle.lr_cmd_shelf.specs.Files.{query_of_files, query_of_one, no_text, refused_for}

-- the text of an image, or what is refused for its fault; an image that wasn't looked at has no text
abbrev pub image_fate : Option (Result Picture ImageFault) → Result (List ℕ) Refusal
image_fate (Some (Ok picture)) = Ok (pgm_text picture)
image_fate (Some (Err fault)) = refused_for (image_fault fault)
image_fate None = no_text

abbrev pub export_fate : ℕ → Opened → Result (List ℕ) Refusal
export_fate number opened = image_fate opened.image

abbrev pub export_query : ℕ → Query
export_query number = query_of_files (query_of_one each_image export_fate number)
