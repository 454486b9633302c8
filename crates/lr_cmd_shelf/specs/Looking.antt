-- Commands that look at images: what they see of each.
use Rattle.std.specs.Prelude.{Bool, true, false, Option, Some, None, Result}
use Rattle.lr_bits.specs.File.{File}
use Rattle.lr_image.specs.Picture.{Picture}
use Rattle.lr_image.specs.Images.{HasOutcome}
use Rattle.lr_image.specs.declared.fault.ImageFault.{ImageFault}
use Rattle.lr_shelf_format.specs.declared.stored.Stored.{Stored}
use Rattle.lr_cmd_shelf.specs.Queries.{Sight}

-- the image of a file is there where the command looks at it, and nowhere else
abbrev pub IsLooked : Bool → File → Option (Result Picture ImageFault) → Type 0
IsLooked true file (Some outcome) = HasOutcome file outcome
IsLooked false file None = Unit {0}
IsLooked _ file _ = ⊥

-- the images of these files
abbrev pub images_where : (Stored → Bool) → Sight
images_where looks stored image = IsLooked (looks stored) stored.file image

-- those of all files
abbrev pub each_image : Sight
each_image = images_where (λ stored. true)
