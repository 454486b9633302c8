-- For how many pixels of an image memory is taken. A header may claim more lines than its file can have.
use Rattle.std.specs.Prelude.{◌+◌, ◌*◌, ◌/◌, min, sum_by, ℕ, Option, Some, None, List, length}
use Rattle.lr_headers.specs.declared.fields.Structure.{Structure}
use Rattle.lr_headers.specs.declared.fields.Lossless.{Lossless}
use Rattle.lr_image.specs.declared.shape.Shape.{Shape}

-- how many lines a piece has at most: as many as a packet has, and each takes at least the three bits of the shortest
-- identifier and those of a sample
abbrev pub most_piece_lines : Structure → Lossless → List ℕ → ℕ
most_piece_lines s l piece = min (8 * length piece / (s.bits + 3)) l.lines

-- how many lines an image has at most: no more than its header claims, nor than the pieces have of one that is coded
-- without loss
abbrev pub most_lines : Structure → Option Lossless → List (List ℕ) → ℕ
most_lines s None pieces = s.lines
most_lines s (Some l) pieces = min s.lines (sum_by (most_piece_lines s l) pieces)

-- and how many pixels
abbrev pub most_pixels_for : Shape → List (List ℕ) → ℕ
most_pixels_for shape pieces = shape.structure.columns * most_lines shape.structure shape.lossless pieces
