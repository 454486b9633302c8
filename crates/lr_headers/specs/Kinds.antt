-- The kinds of header records that are read, and how many bytes each has with its kind and its length (CGMS 03, the
-- header records). The kinds 128 and 131 are this project's own readings. The code's own constants of `kinds` are
-- these.
use Rattle.std.specs.Prelude.{ℕ}

-- the primary record, the first one, of kind 0
abbrev pub primary_bytes : ℕ
primary_bytes = 16

abbrev pub structure_kind : ℕ
structure_kind = 1

abbrev pub structure_bytes : ℕ
structure_bytes = 9

abbrev pub navigation_kind : ℕ
navigation_kind = 2

abbrev pub navigation_bytes : ℕ
navigation_bytes = 51

abbrev pub image_function_kind : ℕ
image_function_kind = 3

abbrev pub annotation_kind : ℕ
annotation_kind = 4

abbrev pub stamp_kind : ℕ
stamp_kind = 5

abbrev pub stamp_bytes : ℕ
stamp_bytes = 10

abbrev pub ancillary_kind : ℕ
ancillary_kind = 6

abbrev pub key_kind : ℕ
key_kind = 7

abbrev pub segment_kind : ℕ
segment_kind = 128

abbrev pub segment_bytes : ℕ
segment_bytes = 17

abbrev pub lossless_kind : ℕ
lossless_kind = 131

abbrev pub lossless_bytes : ℕ
lossless_bytes = 7
