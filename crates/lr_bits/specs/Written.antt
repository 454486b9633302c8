-- How the headers of a mission file are written (CGMS 03, transport files and header records). Numbers stand most
-- significant byte first.
use Rattle.std.specs.Prelude.{ℕ, List, [], ◌∷◌, ◌++◌, ◌+◌, length}
use Rattle.std.specs.Int.{bytes_high_first}

-- a transport header: the file counter, and how many bits come after it
abbrev pub transport_header : ℕ → ℕ → List ℕ
transport_header counter bits = bytes_high_first 2 counter ++ bytes_high_first 8 bits

-- a header record: its kind, its length in bytes, those of kind and length included, and its contents
abbrev pub header_record : ℕ → List ℕ → List ℕ
header_record kind contents = kind ∷ (bytes_high_first 2 (3 + length contents) ++ contents)

-- the primary record, of kind 0: the file type, how many bytes all records have, and how many bits the data field has
abbrev pub primary_record : ℕ → ℕ → ℕ → List ℕ
primary_record file_type header_bytes data_bits =
    header_record 0 (file_type ∷ (bytes_high_first 4 header_bytes ++ bytes_high_first 8 data_bits))

-- the image structure record, of kind 1: bits a pixel, columns, lines, compression
abbrev pub structure_record : ℕ → ℕ → ℕ → ℕ → List ℕ
structure_record bits columns lines compression =
    header_record 1 (bits ∷ (bytes_high_first 2 columns ++ (bytes_high_first 2 lines ++ compression ∷ [])))
