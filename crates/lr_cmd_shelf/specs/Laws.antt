-- What is true of all bytes.
use Rattle.std.specs.Prelude.{◌≡◌, ◌⊎◌, ◌<◌, ◌≤◌, ◌++◌, ℕ, Bool, true, false, Option, Some, None, Result}
use Rattle.std.specs.Prelude.{Ok, Err, All, List, length}
use Rattle.lr_bits.specs.File.{proper_of}
use Rattle.lr_image.specs.Pgm.{pgm_text}
use Rattle.lr_image.specs.Picture.{Picture}
use Rattle.lr_image.specs.Images.{HasOutcome}
use Rattle.lr_image.specs.declared.fault.ImageFault.{ImageFault}
use Rattle.lr_shelf_format.specs.Way.{Way, IsWay, Bad, HasSoundRecord, IsFound, Sound}
use Rattle.lr_shelf_format.specs.declared.stored.Stored.{Stored}
use Rattle.lr_cmd_shelf.specs.Looking.{images_where}
use Rattle.lr_cmd_shelf.specs.Queries.{Query, Answer, EntryView, Sight, entry_at, IsAnswer, IsBegun}
use Rattle.lr_cmd_shelf.specs.Queries.{IsRefusedFor, PutsOneText, done_answer, no_image}
use Rattle.lr_cmd_shelf.specs.Export.{export_query}
use Rattle.lr_cmd_shelf.specs.Extract.{extract_query}
use Rattle.lr_cmd_shelf.specs.Show.{show_query, show_text}
use Rattle.lr_refusals.specs.Errors.{image_fault}
use Rattle.lr_cmd_shelf.specs.Files.{query_of_files, query_of_one}
use Rattle.lr_cmd_shelf.specs.declared.opened.Opened.{Opened}
use Rattle.lr_cmd_shelf.specs.declared.range.Range.{Range}
use Rattle.lr_causes.specs.declared.cause.Refusal.{Refusal}
use Rattle.lr_causes.specs.declared.note.Note.{Note}
use Rattle.lr_cmd_shelf.specs.Verify.{verify_query}
use Rattle.lr_causes.specs.declared.cause.Refusal.TheVariants.{NotAShelf, NoSuchFile, BadChecksum, Discarded}
use Rattle.lr_causes.specs.declared.cause.Refusal.TheVariants.{CannotExport}
use Rattle.lr_causes.specs.declared.fault.ExportFault.{ExportFault}

-- ---- what is asked, as plain data

-- the images at which a command looks: none, or those of these files
pub data Looks : Type 0 where
  AtNone : Looks
  AtImages : (those : Stored → Bool) → Looks

abbrev pub sight_of : Looks → Sight
sight_of AtNone = no_image
sight_of (AtImages those) = images_where those

-- What may be asked: the query of each command is that of such a record.
pub record Asked : Type 0 where
  pub range : ℕ → Option Range
  pub looks : Looks
  pub fate : List EntryView → ℕ → EntryView → Result (List ℕ) Refusal
  pub last : Way → List EntryView → Result (List ℕ) Refusal
  pub note : List EntryView → Option Note

abbrev pub query_of : Asked → Query
query_of asked = record {
  range = asked.range;
  sees = sight_of asked.looks;
  fate = asked.fate;
  last = asked.last;
  note = asked.note;
}

-- ---- answers

-- bytes have an answer to each thing that is asked
abbrev pub HasAnAnswer : Type 0
HasAnAnswer =
    (asked : Asked) (bytes : List ℕ) → All (λ byte. byte < 256) bytes
    → (answer : Answer) × IsAnswer (query_of asked) bytes answer

-- bytes have one answer at most
abbrev pub HasOneAnswer : Type 0
HasOneAnswer =
    (asked : Asked) (bytes : List ℕ) (one other : Answer) → IsAnswer (query_of asked) bytes one
    → IsAnswer (query_of asked) bytes other → one ≡ other

-- the texts that are begun are a prefix of the answer
abbrev pub BegunComesFirst : Type 0
BegunComesFirst =
    (asked : Asked) (bytes : List ℕ) (passed left : ℕ) (text : List ℕ) (answer : Answer)
    → IsBegun (query_of asked) bytes passed left text → IsAnswer (query_of asked) bytes answer
    → (rest : List ℕ) × (answer.text ≡ text ++ rest)

-- ---- reasons

-- Each reason for a refusal that a command on a file's number has before it sees the file, in its order: no such
-- number, gone, no record there, a wrong checksum.
pub record HasFirstReasons (query : Query) (number : ℕ) (bytes : List ℕ) (way : Way) : Type 0 where
  pub no_file : length way.entries ≤ number → IsRefusedFor query bytes (NoSuchFile (length way.entries))
  pub gone : number < length way.entries → (entry_at way number).gone ≡ true → IsRefusedFor query bytes Discarded
  pub no_record : number < length way.entries → IsFound bytes (entry_at way number) None
      → IsRefusedFor query bytes (NotAShelf (entry_at way number).gate)
  pub bad : number < length way.entries → (stored computed : ℕ)
      → IsFound bytes (entry_at way number) (Some (Bad stored computed)) → IsRefusedFor query bytes BadChecksum

-- The reasons of a command that puts this text of a file, and that it puts it where there is none.
pub record HasReasons (query : ℕ → Query) (text : ℕ → Stored → List ℕ) (number : ℕ) (bytes : List ℕ) (way : Way)
    : Type 0 where
  pub first : HasFirstReasons (query number) number bytes way
  pub sound : number < length way.entries → (stored : Stored)
      → IsFound bytes (entry_at way number) (Some (Sound stored))
      → IsAnswer (query number) bytes (done_answer (text number stored) None)
  -- whether or not such a record holds a file, nothing is refused for it
  pub right : number < length way.entries → (entry_at way number).gone ≡ false
      → HasSoundRecord bytes (entry_at way number) → (answer : Answer) → IsAnswer (query number) bytes answer
      → answer.refusal ≡ None

abbrev pub ExtractHasReasons : Type 0
ExtractHasReasons = (number : ℕ) (bytes : List ℕ) (way : Way) → IsWay bytes way
    → HasReasons extract_query (λ n stored. proper_of stored.file) number bytes way

abbrev pub ShowHasReasons : Type 0
ShowHasReasons = (number : ℕ) (bytes : List ℕ) (way : Way) → IsWay bytes way
    → HasReasons show_query show_text number bytes way

-- Those of `export`, and after them the first fault of a file without an image; and what it puts where the file has
-- one.
pub record HasExportReasons (number : ℕ) (bytes : List ℕ) (way : Way) : Type 0 where
  pub first : HasFirstReasons (export_query number) number bytes way
  pub fault : number < length way.entries → (stored : Stored)
      → IsFound bytes (entry_at way number) (Some (Sound stored)) → (first : ImageFault)
      → HasOutcome stored.file (Err first) → (word : ExportFault) → image_fault first ≡ Some word
      → IsRefusedFor (export_query number) bytes (CannotExport word)
  pub image : number < length way.entries → (stored : Stored)
      → IsFound bytes (entry_at way number) (Some (Sound stored)) → (picture : Picture)
      → HasOutcome stored.file (Ok picture)
      → IsAnswer (export_query number) bytes (done_answer (pgm_text picture) None)

abbrev pub ExportHasReasons : Type 0
ExportHasReasons = (number : ℕ) (bytes : List ℕ) (way : Way) → IsWay bytes way → HasExportReasons number bytes way

-- the only text of a command on a file's number is that of one entry
abbrev pub OneFilePutsOneText : Type 0
OneFilePutsOneText =
    (looks : Looks) (fate : ℕ → Opened → Result (List ℕ) Refusal) (number : ℕ)
    → PutsOneText (query_of_files (query_of_one (sight_of looks) fate number))

-- Each reason that `verify` has for a refusal, and that it has no other.
pub record SaysWhy (bytes : List ℕ) (way : Way) (answer : Answer) : Type 0 where
  pub no_record : (number : ℕ) → number < length way.entries → IsFound bytes (entry_at way number) None
      → (at : ℕ) × (answer.refusal ≡ Some (NotAShelf at))
  pub bad : ((each : ℕ) → each < length way.entries → IsFound bytes (entry_at way each) None → ⊥) → (number : ℕ)
      → number < length way.entries → (stored computed : ℕ)
      → IsFound bytes (entry_at way number) (Some (Bad stored computed))
      → answer.refusal ≡ Some BadChecksum
  pub sound :
      ((each : ℕ) → each < length way.entries
      → ((entry_at way each).gone ≡ true) ⊎ HasSoundRecord bytes (entry_at way each))
      → answer.refusal ≡ None

abbrev pub VerifyHasReasons : Type 0
VerifyHasReasons =
    (bytes : List ℕ) (way : Way) (answer : Answer) → IsWay bytes way → IsAnswer verify_query bytes answer
    → SaysWhy bytes way answer
