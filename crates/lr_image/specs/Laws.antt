-- What is said of all images.
use Rattle.std.specs.Prelude.{◌≡◌, Result}
use Rattle.lr_bits.specs.File.{File}
use Rattle.lr_image.specs.declared.fault.ImageFault.{ImageFault}
use Rattle.lr_image.specs.Picture.{Picture}
use Rattle.lr_image.specs.Images.{HasOutcome}

-- a file has one image, or one first fault, and not both
abbrev pub OutcomesAreOne : Type 0
OutcomesAreOne =
    (file : File) (one other : Result Picture ImageFault) → HasOutcome file one → HasOutcome file other → one ≡ other

-- each file has an image or a first fault
abbrev pub FilesHaveOutcomes : Type 0
FilesHaveOutcomes = (file : File) → (outcome : Result Picture ImageFault) × HasOutcome file outcome
