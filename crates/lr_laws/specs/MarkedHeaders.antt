-- What the header of a marked file is, as it is read.
use Rattle.std.specs.Prelude.{◌≡◌, ◌+◌, ℕ, List, [], ◌∷◌, ◌++◌, length, take, drop, Some, Ok}
use Rattle.std.specs.Int.{to_be_bytes, w32}
use Rattle.lr_bits.specs.File.{File, proper_of}
use Rattle.lr_headers.specs.Headers.{header_of}
use Rattle.lr_headers.specs.Kinds.{ancillary_kind}
use Rattle.lr_headers.specs.Tiling.{Header}
use Rattle.lr_mend.specs.Marks.{mark_record, mark_text, marked}
use Rattle.lr_mend.specs.declared.marks.MarkedFile.{MarkedFile}

-- the bytes of a header, with a record more at their end and the header's length with it
abbrev pub header_bytes_with : List ℕ → List ℕ → List ℕ
header_bytes_with mark bytes =
    take 4 bytes ++ to_be_bytes w32 (length bytes + length mark) ++ drop 8 bytes ++ mark

-- the header with this text in a record more, after all others
abbrev pub header_and : List ℕ → Header → Header
header_and text header =
    record {
      bytes = header_bytes_with (mark_record text) header.bytes;
      entries = header.entries
          ++ record { kind = ancillary_kind; at = length header.bytes; length = length text + 3 } ∷ [];
    }

-- The header of a marked file is that of the file, with one record more: the text of its mark.
abbrev pub MarkedHeaders : Type 0
MarkedHeaders = (file : File) (place : ℕ) (places : List ℕ) (m : MarkedFile) (header : Header) →
    header_of (proper_of file) ≡ Ok header → marked file (place ∷ places) ≡ Some m →
    header_of (proper_of m.file) ≡ Ok (header_and (mark_text (place ∷ places) (length file.bodies)) header)
