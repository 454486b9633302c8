-- Which strips an image has. Those of an image that isn't compressed have at most 64 lines and 65,536 pixels each, but
-- one line at least; the last one has the lines that are left. Those of a losslessly coded one are the pieces of its
-- file, each with as many lines as a packet has, and the last one with those that are still wanted.
use Rattle.std.specs.Prelude.{ℕ, zero, suc, ◌+◌, ◌-◌, ◌*◌, ◌/◌, ◌%◌, max, min, Option, Some, None}
use Rattle.std.specs.Prelude.{List, [], ◌∷◌, take, drop}
use Rattle.lr_bits.specs.File.{File}
use Rattle.lr_headers.specs.declared.fields.Structure.{Structure}
use Rattle.lr_headers.specs.declared.fields.Lossless.{Lossless}
use Rattle.lr_image.specs.declared.layout.Layout.{Layout}
use Rattle.lr_image.specs.Images.{data_field, data_pieces}
use Rattle.lr_render.specs.declared.strip.Coding.TheVariants.{Plain, Coded}
use Rattle.lr_render.specs.declared.strip.StripSource.{StripSource}

-- ---- images that aren't compressed

-- at which bit of the data field a line begins
abbrev pub line_start : Structure → ℕ → ℕ
line_start s line = s.bits * (s.columns * line)

-- how many bytes these bits reach into, from a bit of the first one on
abbrev pub bytes_for : (first_bit bits : ℕ) → ℕ
bytes_for first_bit bits = (first_bit + bits + 7) / 8

-- this many lines from one on, and the bytes that they reach into
abbrev pub plain_strip : Structure → List ℕ → (from lines : ℕ) → StripSource
plain_strip s field from lines = record {
  bytes = take (bytes_for (line_start s from % 8) (line_start s lines)) (drop (line_start s from / 8) field);
  coding = Plain (line_start s from % 8);
  bits = s.bits;
  columns = s.columns;
  lines = lines;
}

-- the most lines of a strip, and its most pixels where it has more than one line
abbrev pub most_strip_lines : ℕ
most_strip_lines = 64

abbrev pub most_strip_pixels : ℕ
most_strip_pixels = 65536

-- how many lines a strip has
abbrev pub strip_lines : Structure → ℕ
strip_lines s = max 1 (min most_strip_lines (most_strip_pixels / s.columns))

-- how many strips this many lines need
abbrev pub plain_count : Structure → ℕ → ℕ
plain_count s lines = (lines + (strip_lines s - 1)) / strip_lines s

-- the strips of the lines from one on, `count` of them
abbrev pub plain_strips : Structure → List ℕ → (count from : ℕ) → List StripSource
plain_strips s field zero from = []
plain_strips s field (suc count) from =
    plain_strip s field from (min (strip_lines s) (s.lines - from))
    ∷ plain_strips s field count (from + strip_lines s)

-- ---- images that are coded without loss

abbrev pub coded_strip : Structure → Lossless → List ℕ → ℕ → StripSource
coded_strip s l piece lines =
    record { bytes = piece; coding = Coded l.block; bits = s.bits; columns = s.columns; lines = lines }

-- the strips of the lines that are still wanted, from these pieces
abbrev pub coded_strips : Structure → Lossless → ℕ → List (List ℕ) → List StripSource
coded_strips s l zero pieces = []
coded_strips s l (suc wanted) [] = []
coded_strips s l (suc wanted) (piece ∷ pieces) =
    coded_strip s l piece (min l.lines (suc wanted)) ∷ coded_strips s l (suc wanted - l.lines) pieces

-- ---- both

-- the strips of the lines from one on, where these pieces are left
abbrev pub strips_after : Structure → Option Lossless → List ℕ → ℕ → List (List ℕ) → List StripSource
strips_after s None field from pieces = plain_strips s field (plain_count s (s.lines - from)) from
strips_after s (Some l) field from pieces = coded_strips s l (s.lines - from) pieces

-- all strips of the image of a file
abbrev pub strips_of : File → Layout → List StripSource
strips_of file layout = strips_after layout.shape.structure layout.shape.lossless
    (data_field file layout.header_bytes) 0 (data_pieces file layout.header_bytes)
