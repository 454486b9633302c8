-- What a command may see of images: of each file the image, or nothing.
use Rattle.std.specs.Prelude.{Bool, true, false, Option, Some, None, Result}
use Rattle.lr_bits.specs.File.{File}
use Rattle.lr_image.specs.Picture.{Picture}
use Rattle.lr_image.specs.declared.fault.ImageFault.{ImageFault}
use Rattle.lr_shelf_format.specs.declared.stored.Stored.{Stored}
use Rattle.lr_cmd_shelf.specs.Looking.{IsLooked, each_image, images_where}
use Rattle.lr_cmd_shelf.specs.Queries.{Sight, no_image}

-- of this file what is seen is its image, or that none is looked at
pub record SeesIf (looks : Bool) (file : File) (sees : Option (Result Picture ImageFault) → Type 0) : Type 0 where
  pub looked : (image : Option (Result Picture ImageFault)) → IsLooked looks file image → sees image
  pub only : (image : Option (Result Picture ImageFault)) → sees image → IsLooked looks file image

-- and so of each file
abbrev pub SeesImages : Sight → Type 0
SeesImages sees = (stored : Stored) → (looks : Bool) × SeesIf looks stored.file (sees stored)

-- ---- the sights of commands

pub sees_none : (stored : Stored) → SeesIf false stored.file (no_image stored)
sees_none stored = record {
  looked = elim [
    | None ↦ λ is. is
    | Some outcome ↦ λ is. is
  ];
  only = elim [
    | None ↦ λ is. is
    | Some outcome ↦ λ is. is
  ];
}

pub sees_where : (looks : Stored → Bool) (stored : Stored)
    → SeesIf (looks stored) stored.file (images_where looks stored)
sees_where looks stored = record { looked = λ image is. is; only = λ image is. is }

pub no_image_sight : SeesImages no_image
no_image_sight stored = (false, sees_none stored)

pub images_sight : (looks : Stored → Bool) → SeesImages (images_where looks)
images_sight looks stored = (looks stored, sees_where looks stored)

pub each_sight : SeesImages each_image
each_sight = images_sight (λ stored. true)
