-- What image a marked file has.
use Rattle.std.specs.Prelude.{◌≡◌, ℕ, List, ◌∷◌, Some}
use Rattle.lr_bits.specs.File.{File}
use Rattle.lr_image.specs.Images.{IsImageOf}
use Rattle.lr_image.specs.Picture.{Picture}
use Rattle.lr_mend.specs.Marks.{marked}
use Rattle.lr_mend.specs.declared.marks.MarkedFile.{MarkedFile}

-- A marked file has the image that the file has.
abbrev pub MarkedImages : Type 0
MarkedImages = (file : File) (place : ℕ) (places : List ℕ) (m : MarkedFile) (picture : Picture) →
    marked file (place ∷ places) ≡ Some m → IsImageOf file picture → IsImageOf m.file picture
