-- The header of a file proper, or the first fault of one that has none, as a function of its bytes.
use Rattle.std.specs.Prelude.{◌+◌, ℕ, zero, suc, List, [], ◌∷◌, length, nat_lt, Option, Some, None, Result, Ok, Err}
use Rattle.std.specs.Prelude.{if◌then◌else◌}
use Rattle.lr_headers.specs.declared.entry.Entry.{Entry}
use Rattle.lr_headers.specs.declared.fault.HeaderFault.{HeaderFault}
use Rattle.lr_headers.specs.Kinds.{primary_bytes}
use Rattle.lr_headers.specs.Tiling.{Header, fault_at, first_fault, file_header_bytes, kind_at, length_at}

-- a fault, or else what is read
abbrev pub unless_fault : {A : Type 0} → Option HeaderFault → Result A HeaderFault → Result A HeaderFault
unless_fault None read = read
unless_fault (Some fault) read = Err fault

-- the record at a place
abbrev pub record_at : List ℕ → ℕ → Entry
record_at bytes place = record { kind = kind_at place bytes; at = place; length = length_at place bytes }

-- a record, and those after it
abbrev pub record_and : Entry → Result (List Entry) HeaderFault → Result (List Entry) HeaderFault
record_and e (Ok entries) = Ok (e ∷ entries)
record_and e (Err fault) = Err fault

-- the records from a place up to the end of the bytes, at most this many
unfoldable pub records_from : ℕ → List ℕ → ℕ → Result (List Entry) HeaderFault
records_from zero bytes place = Ok []
records_from (suc most) bytes place = if nat_lt place (length bytes)
    then unless_fault (fault_at bytes place)
    (record_and (record_at bytes place) (records_from most bytes (place + length_at place bytes)))
    else Ok []

-- a header of these bytes, whose records come after the first one
abbrev pub header_with : List ℕ → Result (List Entry) HeaderFault → Result Header HeaderFault
header_with bytes (Ok entries) =
    Ok (record { bytes = bytes; entries = record { kind = 0; at = 0; length = primary_bytes } ∷ entries })
header_with bytes (Err fault) = Err fault

-- there are fewer records than bytes
unfoldable pub header_of : List ℕ → Result Header HeaderFault
header_of proper = unless_fault (first_fault proper)
    (header_with (file_header_bytes proper) (records_from (length proper) (file_header_bytes proper) primary_bytes))
