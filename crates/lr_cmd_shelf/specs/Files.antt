-- What a command asks that reads whole files: one with a wrong checksum is refused, and one that is gone has its own
-- text or refusal.
use Rattle.std.specs.Prelude.{ℕ, ◌+◌, ◌&&◌, Option, Some, None, Result, Ok, Err, List, [], ◌∷◌, ltb}
use Rattle.std.specs.Prelude.{if◌then◌else◌, nat_le}
use Rattle.lr_shelf_format.specs.Way.{Way}
use Rattle.lr_causes.specs.declared.cause.Refusal.{Refusal}
use Rattle.lr_causes.specs.declared.cause.Refusal.TheVariants.{BadChecksum, CannotExport, Discarded}
use Rattle.lr_causes.specs.declared.fault.ExportFault.{ExportFault}
use Rattle.lr_causes.specs.declared.note.Note.{Note}
use Rattle.lr_cmd_shelf.specs.declared.opened.Opened.{Opened}
use Rattle.lr_cmd_shelf.specs.declared.range.Range.{Range}
use Rattle.lr_cmd_shelf.specs.Queries.{Query, Sight, EntryView, Whole, Wrong, Absent}

pub record FileQuery : Type 1 where
  pub range : ℕ → Option Range
  pub sees : Sight
  -- of a file after those that were read
  pub fate : List Opened → ℕ → Opened → Result (List ℕ) Refusal
  -- of an entry that is gone
  pub gone : ℕ → Result (List ℕ) Refusal
  pub last : Way → List Opened → Result (List ℕ) Refusal
  pub note : List Opened → Option Note

-- the files among what was seen
abbrev pub files_of : List EntryView → List Opened
files_of [] = []
files_of (Whole opened ∷ read) = opened ∷ files_of read
files_of (Wrong stored computed ∷ read) = files_of read
files_of (Absent ∷ read) = files_of read

abbrev pub fate_by : FileQuery → List EntryView → ℕ → EntryView → Result (List ℕ) Refusal
fate_by query read number (Whole opened) = query.fate (files_of read) number opened
fate_by query read number (Wrong stored computed) = Err BadChecksum
fate_by query read number Absent = query.gone number

abbrev pub query_of_files : FileQuery → Query
query_of_files query = record {
  range = query.range;
  sees = query.sees;
  fate = fate_by query;
  last = λ way read. query.last way (files_of read);
  note = λ read. query.note (files_of read);
}

-- ---- what many commands ask

abbrev pub all_entries : ℕ → Option Range
all_entries count = Some (record { from = 0; to = count })

-- the one of this number
abbrev pub one_entry : ℕ → ℕ → Option Range
one_entry number count = if ltb number count then Some (record { from = number; to = number + 1 }) else None

-- no text, and nothing to refuse
abbrev pub no_text : Result (List ℕ) Refusal
no_text = Ok []

-- no PGM can be put for this fault, if it is one
abbrev pub refused_for : Option ExportFault → Result (List ℕ) Refusal
refused_for (Some fault) = Err (CannotExport fault)
refused_for None = no_text

-- the file of this number, of whose image this is seen; one that is gone is refused
abbrev pub query_of_one : Sight → (ℕ → Opened → Result (List ℕ) Refusal) → ℕ → FileQuery
query_of_one sees fate number = record {
  range = one_entry number;
  sees = sees;
  fate = λ read n opened. fate n opened;
  gone = λ n. Err Discarded;
  last = λ way read. no_text;
  note = λ read. None;
}

-- those from one number up to another, which is at most the number of entries
abbrev pub entries_between : (from to : ℕ) → ℕ → Option Range
entries_between from to count =
    if nat_le from to && nat_le to count then Some (record { from = from; to = to }) else None

-- a command that tells nothing
abbrev pub no_note : List Opened → Option Note
no_note read = None
