-- The header of a mission file proper: records that tile its first bytes (CGMS 03, the header records).
use Rattle.std.specs.Prelude.{false, ◌≡◌, ◌+◌, ◌<◌, ◌≤◌, ◌||◌, ◌==◌, not, ℕ, Bool, List, [], ◌∷◌, length, take, drop}
use Rattle.std.specs.Prelude.{Option, Some, None, nat_lt, if◌then◌else◌, slice_index, ◌⊎◌}
use Rattle.byteorder.specs.Endian.{big_number}
use Rattle.lr_headers.specs.declared.fault.HeaderFault.{HeaderFault}
use Rattle.lr_headers.specs.declared.fault.HeaderFault.TheVariants.{Ended, NotPrimary, ShortRecord, Overrun}
use Rattle.lr_headers.specs.declared.fault.HeaderFault.TheVariants.{WrongLength, NoMemory}
use Rattle.lr_headers.specs.declared.entry.Entry.{Entry}
use Rattle.lr_headers.specs.Kinds.{navigation_bytes, navigation_kind, primary_bytes, stamp_bytes, stamp_kind}
use Rattle.lr_headers.specs.Kinds.{structure_bytes, structure_kind}

-- a header: its bytes, and the records that tile them
pub record Header : Type 0 where
  pub bytes : List ℕ
  pub entries : List Entry

-- the number in this many bytes from a place on, the most significant first
unfoldable pub number_at : ℕ → ℕ → List ℕ → ℕ
number_at count place bytes = big_number count (drop place bytes)

-- a record begins with its kind, and its length in bytes
abbrev pub kind_at : ℕ → List ℕ → ℕ
kind_at place bytes = slice_index bytes place

abbrev pub length_at : ℕ → List ℕ → ℕ
length_at place bytes = number_at 2 (place + 1) bytes

-- how many bytes the header has, as its first record says
abbrev pub header_length : List ℕ → ℕ
header_length proper = number_at 4 4 proper

-- the fault of the first record of a file, or of the file's length
abbrev pub first_fault : List ℕ → Option HeaderFault
first_fault proper =
    if nat_lt (length proper) primary_bytes then Some (Ended (length proper))
    else (if not (kind_at 0 proper == 0) || not (length_at 0 proper == primary_bytes) then Some NotPrimary
    else (if nat_lt (header_length proper) primary_bytes then Some (Overrun 0)
    else (if nat_lt (length proper) (header_length proper) then Some (Ended (length proper))
    else None)))

-- the length isn't the one that records of this kind have
abbrev pub has_wrong_length : ℕ → ℕ → Bool
has_wrong_length kind size =
    if kind == structure_kind then not (size == structure_bytes)
    else (if kind == navigation_kind then not (size == navigation_bytes)
    else (if kind == stamp_kind then not (size == stamp_bytes)
    else false))

-- the fault of a record at a place before the header's end
abbrev pub fault_at : List ℕ → ℕ → Option HeaderFault
fault_at bytes place =
    if nat_lt (length bytes) (place + 3) then Some (Overrun place)
    else (if nat_lt (length_at place bytes) 3 then Some (ShortRecord place)
    else (if nat_lt (length bytes) (place + length_at place bytes) then Some (Overrun place)
    else (if has_wrong_length (kind_at place bytes) (length_at place bytes)
    then Some (WrongLength (kind_at place bytes) (length_at place bytes))
    else None)))

-- a record without a fault stands at its place
pub record IsRecord (bytes : List ℕ) (place : ℕ) (e : Entry) : Type 0 where
  pub below : place < length bytes
  pub sound : fault_at bytes place ≡ None
  pub here : e.at ≡ place
  pub kind : e.kind ≡ kind_at place bytes
  pub size : e.length ≡ length_at place bytes

-- the first record
pub record IsPrimary (e : Entry) : Type 0 where
  pub kind : e.kind ≡ 0
  pub here : e.at ≡ 0
  pub size : e.length ≡ primary_bytes

-- the records stand one after another, from a place up to another one
abbrev pub IsTiling : List ℕ → ℕ → List Entry → ℕ → Type 0
IsTiling bytes from [] to = from ≡ to
IsTiling bytes from (e ∷ es) to = IsRecord bytes from e × IsTiling bytes (from + e.length) es to

-- the records of a header: the primary one, and those that tile the bytes after it up to `to`
abbrev pub IsPrefix : List ℕ → List Entry → ℕ → Type 0
IsPrefix bytes [] to = ⊥
IsPrefix bytes (e ∷ es) to = IsPrimary e × IsTiling bytes primary_bytes es to

-- the records tile the bytes, from the first to the last
pub record IsTiled (header : Header) : Type 0 where
  pub least : primary_bytes ≤ length header.bytes
  pub front : IsPrefix header.bytes header.entries (length header.bytes)

-- the bytes of the header of a file proper
abbrev pub file_header_bytes : List ℕ → List ℕ
file_header_bytes proper = take (header_length proper) proper

-- the header of a file proper
pub record IsHeaderOf (proper : List ℕ) (header : Header) : Type 0 where
  pub sound : first_fault proper ≡ None
  pub bytes : header.bytes ≡ file_header_bytes proper
  pub tiled : IsTiled header

-- the records go on up to a place, and not from there
pub record HasFaultyRecord (bytes : List ℕ) (fault : HeaderFault) : Type 0 where
  pub entries : List Entry
  pub place : ℕ
  pub front : IsPrefix bytes entries place
  pub before : place < length bytes
  pub fails : fault_at bytes place ≡ Some fault

-- the file proper has no header, and the fault is that of the first place from which the tiling can't go on
abbrev pub HasHeaderFault : List ℕ → HeaderFault → Type 0
HasHeaderFault proper fault = (first_fault proper ≡ Some fault)
    ⊎ ((first_fault proper ≡ None) × HasFaultyRecord (file_header_bytes proper) fault)

-- the file proper has no header, with this fault; or memory was refused, which may come at any time
abbrev pub HasHeaderFaultOrMemory : List ℕ → HeaderFault → Type 0
HasHeaderFaultOrMemory proper NoMemory = Unit {0}
HasHeaderFaultOrMemory proper fault = HasHeaderFault proper fault
