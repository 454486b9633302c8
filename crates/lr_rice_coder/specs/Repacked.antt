-- A file whose image is coded anew without loss, one line in each packet after the first (CGMS 03, transport files and
-- header records; the lossless record is a rule of this project's own).
use Rattle.std.specs.Prelude.{◌≡◌, ◌<◌, ◌≤◌, ◌+◌, ◌*◌, ◌&&◌, ◌==◌, not, ℕ, Bool, List, [], ◌∷◌, ◌++◌, length, map}
use Rattle.std.specs.Prelude.{take, drop, filter}
use Rattle.std.specs.List.{AllZip, concat, flat_map, range_with_len, sum_by}
use Rattle.byteorder.specs.Endian.{big_bytes}
use Rattle.lr_bits.specs.File.{File, IsFile, counter_of, declared_bits_of, proper_of, real_bits_of}
use Rattle.lr_bits.specs.Written.{header_record, primary_record, structure_record, transport_header}
use Rattle.lr_bits.specs.declared.sizes.TheConstants.{TRANSPORT_HEADER_BYTES}
use Rattle.lr_headers.specs.Fields.{data_bits}
use Rattle.lr_headers.specs.Kinds.{lossless_bytes, lossless_kind, primary_bytes, structure_bytes, structure_kind}
use Rattle.lr_headers.specs.Tiling.{Header, IsHeaderOf}
use Rattle.lr_headers.specs.declared.entry.Entry.{Entry}
use Rattle.lr_rice.specs.CodedLines.{Form, form_of}
use Rattle.lr_image.specs.Pgm.{line_pixels}
use Rattle.lr_image.specs.Picture.{Picture}
use Rattle.lr_image.specs.Images.{IsImageOf}
use Rattle.lr_rice_coder.specs.Coded.{IsCodedLine, byte_count}
use Rattle.lr_rice_coder.specs.Shortest.{shortest_string}

-- ---- lines

-- how the lines of an image are coded
abbrev pub form_with : Picture → ℕ → Form
form_with picture block = form_of picture.bits block picture.columns

-- the lines of an image, the first one first
abbrev pub rows_of : Picture → List (List ℕ)
rows_of picture = map (line_pixels picture) (range_with_len 0 picture.lines)

-- these bytes are those of the image's lines
abbrev pub AreCodedLines : Picture → ℕ → List (List ℕ) → Type 0
AreCodedLines picture block lines = AllZip (IsCodedLine (form_with picture block)) (rows_of picture) lines

-- how many bytes a line takes
abbrev pub line_size : Picture → ℕ → List ℕ → ℕ
line_size picture block row = byte_count (shortest_string (form_with picture block) row)

-- ---- header records

-- all bytes of a record
abbrev pub record_bytes : List ℕ → Entry → List ℕ
record_bytes bytes e = take e.length (drop e.at bytes)

-- neither an image structure record nor a lossless one, of whatever length
abbrev pub is_other : Entry → Bool
is_other e = not (e.kind == structure_kind) && not (e.kind == lossless_kind)

-- the records after the first one that stay
abbrev pub others_of : List Entry → List Entry
others_of [] = []
others_of (first ∷ entries) = filter is_other entries

abbrev pub other_records : Header → List ℕ
other_records header = flat_map (record_bytes header.bytes) (others_of header.entries)

-- the file type of images
abbrev pub image_type : ℕ
image_type = 0

-- the compression without loss, in an image structure record
abbrev pub lossless_compression : ℕ
lossless_compression = 1

-- the image structure record of an image that is compressed without loss
abbrev pub lossless_structure : Picture → List ℕ
lossless_structure picture = structure_record picture.bits picture.columns picture.lines lossless_compression

-- the flags of a lossless record: the bit of value 32 has to be set, and 16 and 1 go with it
abbrev pub lossless_flags : ℕ
lossless_flags = 49

-- the lossless record: its kind and its bytes, its flags, the samples of a block, and one line in each packet
abbrev pub lossless_record : ℕ → List ℕ
lossless_record block = header_record lossless_kind (big_bytes 2 lossless_flags ++ block ∷ 1 ∷ [])

-- how many bytes these three records have
abbrev pub new_records_bytes : ℕ
new_records_bytes = primary_bytes + structure_bytes + lossless_bytes

-- how many bytes all records have
abbrev pub records_size : Header → ℕ
records_size header = new_records_bytes + length (other_records header)

abbrev pub new_records : Header → Picture → ℕ → ℕ → List ℕ
new_records header picture block data_bits =
    primary_record image_type (records_size header) data_bits ++ lossless_structure picture ++ lossless_record block
    ++ other_records header

-- ---- the file

-- the first body: the transport header and the header, where the lines have `size` bytes
abbrev pub first_body : File → Header → Picture → ℕ → ℕ → List ℕ
first_body file header picture block size =
    transport_header (counter_of file) (8 * (records_size header + size))
    ++ new_records header picture block (8 * size)

-- how many bytes it has
abbrev pub first_size : Header → ℕ
first_size header = TRANSPORT_HEADER_BYTES + records_size header

-- the file: its first body, and one for each line
abbrev pub repacked_file : File → Header → Picture → ℕ → List (List ℕ) → File
repacked_file file header picture block lines = record {
  vc = file.vc;
  apid = file.apid;
  bodies = first_body file header picture block (length (concat lines)) ∷ lines;
}

-- how many bytes the file has
abbrev pub file_size : Header → Picture → ℕ → ℕ
file_size header picture block = first_size header + sum_by (line_size picture block) (rows_of picture)

-- the file has this image, of 5 bits or more a pixel, and this header
pub record IsSource (file : File) (picture : Picture) (header : Header) : Type 0 where
  pub is_image : IsImageOf file picture
  pub deep : 5 ≤ picture.bits
  pub is_header : IsHeaderOf (proper_of file) header

-- The file counter, and the size of the image, fit two bytes each. They do in every file of a program, whose bytes are
-- numbers below 256; a file is a list of numbers here, so it is said.
pub record IsNarrow (file : File) (picture : Picture) : Type 0 where
  pub counter : counter_of file < 65536
  pub columns : picture.columns < 65536
  pub lines : picture.lines < 65536

-- `new` is the file, coded anew with blocks of this many samples
pub record IsRepacked (file : File) (block : ℕ) (new : File) : Type 0 where
  pub picture : Picture
  pub header : Header
  pub source : IsSource file picture header
  pub narrow : IsNarrow file picture
  pub lines : List (List ℕ)
  pub coded : AreCodedLines picture block lines
  pub is_new : new ≡ repacked_file file header picture block lines
  pub is_file : IsFile new

-- ---- what stays

-- both files have one image
pub record HaveOneImage (one other : File) : Type 0 where
  pub picture : Picture
  pub of_one : IsImageOf one picture
  pub of_other : IsImageOf other picture

-- channel, application and file counter stay
pub record KeepsName (old new : File) : Type 0 where
  pub channel : new.vc ≡ old.vc
  pub application : new.apid ≡ old.apid
  pub counter : counter_of new ≡ counter_of old

-- both lengths in bits are the real ones: in the transport header that of the file proper, and in the primary record
-- that
-- of the data field
pub record TellsLengths (file : File) : Type 0 where
  pub proper : declared_bits_of file ≡ real_bits_of file
  pub header : Header
  pub is_header : IsHeaderOf (proper_of file) header
  pub field : data_bits header ≡ 8 * length (drop (length header.bytes) (proper_of file))
