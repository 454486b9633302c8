-- Images as PGM: a head in text, and then the lines.
use Rattle.std.specs.Prelude.{ℕ, ◌-◌, ◌*◌, ◌/◌, ◌%◌, ◌^◌, ◌++◌, nat_le, if◌then◌else◌, List, [], ◌∷◌, codes}
use Rattle.std.specs.Prelude.{decimal, drop, map, take}
use Rattle.std.specs.List.{concat, flat_map, range_with_len}
use Rattle.lr_image.specs.Picture.{Picture}

-- `P5`, the columns and the lines, and the greatest value of a pixel, each followed by a line feed
unfoldable pub head_text : Picture → List ℕ
head_text picture = concat (
    codes "P5\n" ∷ decimal picture.columns ∷ codes " " ∷ decimal picture.lines ∷ codes "\n" ∷ decimal
    (2 ^ picture.bits - 1) ∷ codes "\n" ∷ [])

-- a pixel is one byte where it has at most 8 bits, else two, the most significant first
abbrev pub pixel_bytes : ℕ → ℕ → List ℕ
pixel_bytes bits pixel = if nat_le bits 8 then pixel ∷ [] else (pixel / 256) ∷ (pixel % 256) ∷ []

-- the pixels of a line, the first of which is 0
abbrev pub line_pixels : Picture → ℕ → List ℕ
line_pixels picture line = take picture.columns (drop (line * picture.columns) picture.pixels)

abbrev pub line_bytes : Picture → ℕ → List ℕ
line_bytes picture line = flat_map (pixel_bytes picture.bits) (line_pixels picture line)

-- all lines, one after another
abbrev pub rows_bytes : Picture → List ℕ
rows_bytes picture = concat (map (line_bytes picture) (range_with_len 0 picture.lines))

-- the whole text
unfoldable pub pgm_text : Picture → List ℕ
pgm_text picture = head_text picture ++ rows_bytes picture
