-- What the records of a header say. An accessor takes the first record of its kind.
use Rattle.std.specs.Prelude.{◌+◌, ◌-◌, ◌==◌, ◌&&◌, ◌||◌, not, ℕ, Bool, List, take, drop, length, Option, slice_index}
use Rattle.std.specs.Prelude.{if◌then◌else◌}
use Rattle.std.specs.Int.{cast_signed, w32}
use Rattle.std.specs.List.{find, list_any}
use Rattle.std.specs.Option.{option_map}
use Rattle.lr_headers.specs.declared.contents.Content.{Content}
use Rattle.lr_headers.specs.declared.contents.Content.TheVariants.{
  Primary,
  Structure as StructureOf,
  Navigation as NavigationOf,
  Text,
  Stamp as StampOf,
  Key,
  Segment as SegmentOf,
  Lossless as LosslessOf,
  Other,
}
use Rattle.lr_headers.specs.declared.entry.Entry.{Entry}
use Rattle.lr_headers.specs.declared.fields.Structure.{Structure}
use Rattle.lr_headers.specs.declared.fields.Navigation.{Navigation}
use Rattle.lr_headers.specs.declared.fields.Stamp.{Stamp}
use Rattle.lr_headers.specs.declared.fields.Segment.{Segment}
use Rattle.lr_headers.specs.declared.fields.Lossless.{Lossless}
use Rattle.lr_headers.specs.Kinds.{
  ancillary_kind,
  annotation_kind,
  image_function_kind,
  key_kind,
  lossless_bytes,
  lossless_kind,
  navigation_kind,
  segment_bytes,
  segment_kind,
  stamp_kind,
  structure_kind,
}
use Rattle.lr_headers.specs.Tiling.{Header, number_at}

-- the contents of a record: its bytes after kind and length
abbrev pub contents_of : List ℕ → Entry → List ℕ
contents_of bytes e = take (e.length - 3) (drop (e.at + 3) bytes)

abbrev pub is_kind : ℕ → Entry → Bool
is_kind kind e = e.kind == kind

-- of this kind, and of this length
abbrev pub is_sized : ℕ → ℕ → Entry → Bool
is_sized kind size e = (e.kind == kind) && (e.length == size)

-- the contents of the first record of a kind
abbrev pub first_contents : ℕ → Header → Option (List ℕ)
first_contents kind header = option_map (contents_of header.bytes) (find (is_kind kind) header.entries)

-- the contents of the first record of a kind that has this length; records of another length are passed over
abbrev pub first_sized : ℕ → ℕ → Header → Option (List ℕ)
first_sized kind size header = option_map (contents_of header.bytes) (find (is_sized kind size) header.entries)

-- the file type and the number of bits of the data field, as the first record declares them
abbrev pub file_type : Header → ℕ
file_type header = slice_index header.bytes 3

abbrev pub data_bits : Header → ℕ
data_bits header = number_at 8 8 header.bytes

abbrev pub structure_in : List ℕ → Structure
structure_in contents = record {
  bits = slice_index contents 0;
  columns = number_at 2 1 contents;
  lines = number_at 2 3 contents;
  compression = slice_index contents 5;
}

abbrev pub structure_of : Header → Option Structure
structure_of header = option_map structure_in (first_contents structure_kind header)

abbrev pub navigation_in : List ℕ → Navigation
navigation_in contents = record {
  name = take 32 contents;
  column_factor = cast_signed w32 (number_at 4 32 contents);
  line_factor = cast_signed w32 (number_at 4 36 contents);
  column_offset = cast_signed w32 (number_at 4 40 contents);
  line_offset = cast_signed w32 (number_at 4 44 contents);
}

abbrev pub navigation_of : Header → Option Navigation
navigation_of header = option_map navigation_in (first_contents navigation_kind header)

abbrev pub stamp_in : List ℕ → Stamp
stamp_in contents = record {
  form = slice_index contents 0;
  days = number_at 2 1 contents;
  milliseconds = number_at 4 3 contents;
}

abbrev pub stamp_of : Header → Option Stamp
stamp_of header = option_map stamp_in (first_contents stamp_kind header)

abbrev pub segment_in : List ℕ → Segment
segment_in contents = record {
  image = number_at 2 0 contents;
  number = number_at 2 2 contents;
  start_column = number_at 2 4 contents;
  start_line = number_at 2 6 contents;
  segments = number_at 2 8 contents;
  columns = number_at 2 10 contents;
  lines = number_at 2 12 contents;
}

abbrev pub segment_of : Header → Option Segment
segment_of header = option_map segment_in (first_sized segment_kind segment_bytes header)

abbrev pub lossless_in : List ℕ → Lossless
lossless_in contents = record {
  flags = number_at 2 0 contents;
  block = slice_index contents 2;
  lines = slice_index contents 3;
}

abbrev pub lossless_of : Header → Option Lossless
lossless_of header = option_map lossless_in (first_sized lossless_kind lossless_bytes header)

-- a key record has a content byte that isn't 0
abbrev pub is_key : List ℕ → Entry → Bool
is_key bytes e = (e.kind == key_kind) && list_any (λ byte. not (byte == 0)) (contents_of bytes e)

abbrev pub is_encrypted : Header → Bool
is_encrypted header = list_any (is_key header.bytes) header.entries

-- what the contents of a record say that isn't the first one
abbrev pub content_in : Entry → List ℕ → Content
content_in e contents =
    if e.kind == structure_kind then StructureOf (structure_in contents)
    else (if e.kind == navigation_kind then NavigationOf (navigation_in contents)
    else (if (e.kind == image_function_kind) || (e.kind == annotation_kind) || (e.kind == ancillary_kind) then Text
    else (if e.kind == stamp_kind then StampOf (stamp_in contents)
    else (if e.kind == key_kind then Key
    else (if is_sized segment_kind segment_bytes e then SegmentOf (segment_in contents)
    else (if is_sized lossless_kind lossless_bytes e then LosslessOf (lossless_in contents)
    else Other))))))

-- what a record of a header says
unfoldable pub content_of : Header → Entry → Content
content_of header e =
    if e.at == 0 then Primary (file_type header) (length header.bytes) (data_bits header)
    else content_in e (contents_of header.bytes e)
