-- The text of an image.
use Rattle.std.proofs.Common.{◌≡◌, ◌<◌, ℕ, List, ◌++◌, length, take, drop, sym, ap, arith, length-append}
use Rattle.std.specs.List.{flat_map}
use Rattle.std.proofs.lemmas.List.{take-append-drop}
use Rattle.lr_image.specs.Pgm.{head_text, pgm_text, pixel_bytes, rows_bytes}
use Rattle.lr_image.specs.Picture.{Picture, IsPicture}
use Rattle.lr_image.proofs.RowLemmas.{text_is}

-- it isn't empty
head_some : (picture : Picture) → 0 < length (head_text picture)
unfolding head_text
head_some picture = omega arith

pub pgm_some : (picture : Picture) → 0 < length (pgm_text picture)
unfolding pgm_text
pgm_some picture = omega (arith, head_some picture, length-append (head_text picture) (rows_bytes picture))

-- the head, and what comes after it
pub head_and_rest : (picture : Picture) (head : List ℕ) → head ≡ head_text picture
    → head ++ rows_bytes picture ≡ pgm_text picture
unfolding pgm_text
head_and_rest picture head is = ap (λ (l : List ℕ). l ++ rows_bytes picture) is

-- the head, and the bytes of all pixels
pub text_of : (picture : Picture) (head pixels : List ℕ) (bits : ℕ) → IsPicture picture → head ≡ head_text picture
    → pixels ≡ picture.pixels → bits ≡ picture.bits
    → head ++ flat_map (pixel_bytes bits) pixels ≡ pgm_text picture
text_of picture head pixels bits is head_is pixels_are bits_are =
    rw (head_is, pixels_are, bits_are) (text_is picture is)

-- a list that was cut in two
pub both_parts : (xs front back : List ℕ) (n : ℕ) → front ≡ take n xs → back ≡ drop n xs → xs ≡ front ++ back
both_parts xs front back n is is' = rw (is, is') (sym (take-append-drop n xs))
