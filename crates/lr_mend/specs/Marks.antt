-- How a file that has fillers is marked: its header gets one record more, an ancillary text that says which of its
-- packets are fillers (CGMS 03, the header records). A file may be marked more than once, where a station sends on what
-- it mended. Then the last one of these records counts.
use Rattle.std.specs.Prelude.{◌+◌, ◌-◌, ◌==◌, ◌&&◌, nat_le, Bool, false, if◌then◌else◌, min, ℕ, List, [], ◌∷◌}
use Rattle.std.specs.Prelude.{◌++◌, length, take, drop, map, codes, decimal, Option, Some, None}
use Rattle.std.specs.Option.{option_map}
use Rattle.std.specs.Int.{to_be_bytes, w16, w32}
use Rattle.lr_bits.specs.File.{File, bytes_of, file_of}
use Rattle.lr_bits.specs.Sizes.{most_body_bytes, most_file_bytes}
use Rattle.lr_headers.specs.Kinds.{ancillary_kind}
use Rattle.lr_headers.specs.Tiling.{number_at}
use Rattle.lr_mend.specs.Mending.{most_fillers}
use Rattle.lr_mend.specs.declared.marks.MarkedFile.{MarkedFile}

-- the place that follows is the next one
abbrev pub goes_on_at : ℕ → List ℕ → Bool
goes_on_at place [] = false
goes_on_at place (next ∷ places) = next == place + 1

-- of a run of places the first and the last one are written, with a dash between: ` 17-18`
abbrev pub place_text : Bool → ℕ → Bool → List ℕ
place_text before place after =
    if before then (if after then [] else codes "-" ++ decimal place) else codes " " ++ decimal place

abbrev pub places_text : Bool → List ℕ → List ℕ
places_text before [] = []
places_text before (place ∷ places) =
    place_text before place (goes_on_at place places) ++ places_text (goes_on_at place places) places

-- `gomtasil mended 2 8-9 of 13`: the places of the fillers, which count from 0, and how many packets there are
unfoldable pub mark_text : List ℕ → ℕ → List ℕ
mark_text places packets = codes "gomtasil mended" ++ places_text false places ++ codes " of " ++ decimal packets

-- a record with this text
abbrev pub mark_record : List ℕ → List ℕ
mark_record text = ancillary_kind ∷ to_be_bytes w16 (length text + 3) ++ text

-- the header's length, as its first record says, which comes after the ten bytes of the transport header
abbrev pub header_bytes_in : List ℕ → ℕ
header_bytes_in bytes = number_at 4 14 bytes

-- the bytes of the file with a record more at the end of its header, and the header's length with it
unfoldable pub marked_bytes : List ℕ → List ℕ → List ℕ
marked_bytes mark bytes =
    let size = header_bytes_in bytes in
    take 14 bytes ++ to_be_bytes w32 (size + length mark) ++ take (size - 8) (drop 18 bytes) ++ mark
    ++ drop (size + 10) bytes

-- the first body is longer by the record
abbrev pub longer_first : ℕ → List ℕ → List ℕ
longer_first more [] = []
longer_first more (first ∷ lengths) = (first + more) ∷ lengths

-- how many bytes the first body has
abbrev pub first_of : List ℕ → ℕ
first_of [] = 0
first_of (first ∷ lengths) = first

-- the first body has the whole header, and with the record more neither it nor the file passes a limit
unfoldable pub can_be_marked : List ℕ → File → Bool
can_be_marked mark file =
    let size = header_bytes_in (bytes_of file) in
    let first = first_of (map length file.bodies) in
    nat_le 8 size && nat_le (size + 10) first && nat_le (first + length mark) most_body_bytes
    && nat_le (length (bytes_of file) + length mark) most_file_bytes

abbrev pub marked_with : List ℕ → File → Option File
marked_with mark file =
    if can_be_marked mark file
    then Some (file_of file.vc file.apid (longer_first (length mark) (map length file.bodies))
    (marked_bytes mark (bytes_of file)))
    else None

-- a file without fillers
abbrev pub whole_file : File → MarkedFile
whole_file file = record { file = file; fillers = 0 }

-- a file with a mark, and as many fillers as there are places; a file has no more than 1,023
abbrev pub file_with : List ℕ → File → MarkedFile
file_with places file = record { file = file; fillers = min most_fillers (length places) }

-- the file as it is where it has no fillers, else with a mark, and none where a limit is passed
abbrev pub marked : File → List ℕ → Option MarkedFile
marked file [] = Some (whole_file file)
marked file (place ∷ places) =
    option_map (file_with (place ∷ places))
    (marked_with (mark_record (mark_text (place ∷ places) (length file.bodies))) file)
