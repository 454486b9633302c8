-- What a command asks of the entries of a shelf, and what bytes answer it, entry by entry, in the order of the call.
use Rattle.std.specs.Prelude.{◌≡◌, ◌⊎◌, ◌≤◌, ◌+◌, ◌-◌, ℕ, zero, suc, Option, Some, None}
use Rattle.std.specs.Prelude.{Result, Ok, Err, List, [], ◌∷◌, ◌++◌, length}
use Rattle.lr_image.specs.Picture.{Picture}
use Rattle.lr_image.specs.declared.fault.ImageFault.{ImageFault}
use Rattle.lr_shelf_format.specs.Way.{Way, IsWay, IsNoShelfAt, Sound, Bad, Gone, IsFound, entry_in}
use Rattle.lr_shelf_format.specs.declared.entry.Entry.{Entry}
use Rattle.lr_shelf_format.specs.declared.stored.Stored.{Stored}
use Rattle.lr_causes.specs.declared.cause.Refusal.{Refusal}
use Rattle.lr_causes.specs.declared.cause.Refusal.TheVariants.{NotAShelf, NoSuchFile}
use Rattle.lr_causes.specs.declared.note.Note.{Note}
use Rattle.lr_cmd_shelf.specs.declared.opened.Opened.{Opened}
use Rattle.lr_cmd_shelf.specs.declared.range.Range.{Range}

-- ---- what a command sees of an entry

-- a file, with its image or the first fault for which it has none, if the command looks at that; a stored checksum and
-- the computed one, where they differ; or that the entry is gone
pub data EntryView : Type 0 where
  Whole : (opened : Opened) → EntryView
  Wrong : (stored computed : ℕ) → EntryView
  Absent : EntryView

-- a file at whose image the command doesn't look
abbrev pub plain : Stored → EntryView
plain stored = Whole (record { stored = stored; image = None })

-- what a command sees of the image of a file
abbrev pub Sight : Type 1
Sight = Stored → Option (Result Picture ImageFault) → Type 0

-- it looks at no image
abbrev pub no_image : Stored → Option (Result Picture ImageFault) → Type 0
no_image stored None = Unit {0}
no_image stored (Some outcome) = ⊥

-- what is seen at this entry, by a command that sees this of images; None where no item stands
abbrev pub IsSeen : Sight → List ℕ → Entry → Option EntryView → Type 0
IsSeen sees bytes entry None = IsFound bytes entry None
IsSeen sees bytes entry (Some (Whole opened)) =
    IsFound bytes entry (Some (Sound opened.stored)) × sees opened.stored opened.image
IsSeen sees bytes entry (Some (Wrong stored computed)) = IsFound bytes entry (Some (Bad stored computed))
IsSeen sees bytes entry (Some Absent) = IsFound bytes entry (Some Gone)

-- of the image of a file only what such a command sees of it is seen
abbrev pub IsSight : Sight → Option EntryView → Type 0
IsSight sees (Some (Whole opened)) = sees opened.stored opened.image
IsSight sees _ = Unit {0}

-- ---- what it asks

-- The words of a command give it by themselves. All but `sees` is plain data.
pub record Query : Type 1 where
  -- which entries, of this many; None where a number isn't allowed
  pub range : ℕ → Option Range
  -- what it sees of the image of a file
  pub sees : Sight
  -- the text of an entry after those that were seen, or what the run is refused for there
  pub fate : List EntryView → ℕ → EntryView → Result (List ℕ) Refusal
  -- the last text, or what the run is refused for after the last entry
  pub last : Way → List EntryView → Result (List ℕ) Refusal
  -- what is told beside the last text
  pub note : List EntryView → Option Note

-- the entry of this number
abbrev pub entry_at : Way → ℕ → Entry
entry_at way number = entry_in way.entries number

-- what becomes of what is seen there; every run is refused at an entry that has no item
abbrev pub fate_of : Query → Way → List EntryView → ℕ → Option EntryView → Result (List ℕ) Refusal
fate_of query way read number None = Err (NotAShelf (entry_at way number).gate)
fate_of query way read number (Some seen) = query.fate read number seen

-- ---- answers

-- what a run puts where nothing fails, what it is refused for then, if anything, and what it tells where it isn't
pub record Answer : Type 0 where
  pub text : List ℕ
  pub refusal : Option Refusal
  pub note : Option Note

abbrev pub done_answer : List ℕ → Option Note → Answer
done_answer text told = record { text = text; refusal = None; note = told }

abbrev pub refused_answer : List ℕ → Refusal → Answer
refused_answer text refusal = record { text = text; refusal = Some refusal; note = None }

abbrev pub answer_of : Result (List ℕ) Refusal → Option Note → Answer
answer_of (Ok text) told = done_answer text told
answer_of (Err refusal) told = refused_answer [] refusal

-- this text, and then the rest
abbrev pub then_rest : List ℕ → Answer → Answer
then_rest text rest = record { text = text ++ rest.text; refusal = rest.refusal; note = rest.note }

-- what is asked of a shelf of this way
pub record QueryOn : Type 1 where
  pub query : Query
  pub way : Way

abbrev pub query_on : Query → Way → QueryOn
query_on query way = record { query = query; way = way }

-- and of its bytes
pub record QueryOver : Type 1 where
  pub query : Query
  pub bytes : List ℕ
  pub way : Way

abbrev pub query_over : Query → List ℕ → Way → QueryOver
query_over query bytes way = record { query = query; bytes = bytes; way = way }

module _ (over : QueryOver) where
  -- an entry at which the run isn't refused, and what comes after it
  pub record PassesEntry (read : List EntryView) (number : ℕ) (After : EntryView → Answer → Type 0) (answer : Answer)
      : Type 0 where
    pub seen : EntryView
    pub text : List ℕ
    pub rest : Answer
    pub stands : IsSeen over.query.sees over.bytes (entry_at over.way number) (Some seen)
    pub fate : over.query.fate read number seen ≡ Ok text
    pub after : After seen rest
    pub is : answer ≡ then_rest text rest

  -- an entry at which the run is refused
  pub record IsRefusedAtEntry (read : List EntryView) (number : ℕ) (answer : Answer) : Type 0 where
    pub seen : Option EntryView
    pub refusal : Refusal
    pub stands : IsSeen over.query.sees over.bytes (entry_at over.way number) seen
    pub fate : fate_of over.query over.way read number seen ≡ Err refusal
    pub is : answer ≡ refused_answer [] refusal

  -- the answer of this many entries, from this number on, after those that were seen
  abbrev pub AnswersFrom : (left number : ℕ) → List EntryView → Answer → Type 0
  AnswersFrom zero number read answer = answer ≡ answer_of (over.query.last over.way read) (over.query.note read)
  AnswersFrom (suc left) number read answer =
      PassesEntry read number (λ seen rest. AnswersFrom left (number + 1) (read ++ seen ∷ []) rest) answer
      ⊎ IsRefusedAtEntry read number answer

  abbrev pub AnswersIn : Option Range → Answer → Type 0
  AnswersIn None answer = answer ≡ refused_answer [] (NoSuchFile (length over.way.entries))
  AnswersIn (Some range) answer = AnswersFrom (range.to - range.from) range.from [] answer

  -- what the entries of this way answer
  abbrev pub AnswersOn : Answer → Type 0
  AnswersOn answer = AnswersIn (over.query.range (length over.way.entries)) answer

-- no shelf stands there, or one whose entries answer
abbrev pub IsAnswer : Query → List ℕ → Answer → Type 0
IsAnswer query bytes answer =
    ((at : ℕ) × IsNoShelfAt bytes at × (answer ≡ refused_answer [] (NotAShelf at)))
    ⊎ ((way : Way) × IsWay bytes way × AnswersOn (query_over query bytes way) answer)

-- what the command is refused for over these bytes
abbrev pub IsRefusedFor : Query → List ℕ → Refusal → Type 0
IsRefusedFor query bytes refusal = (answer : Answer) × IsAnswer query bytes answer × (answer.refusal ≡ Some refusal)

-- ---- what is put before an answer is whole

-- what is asked of the entries alone, and nothing after them
abbrev pub without_last : Query → Query
without_last query = record query { last = λ way read. Ok []; note = λ read. None }

-- the texts of the first entries of the range, this many, after which at least this many are left
pub record BegunOn (over : QueryOver) (passed left : ℕ) (text : List ℕ) : Type 0 where
  pub range : Range
  pub allowed : over.query.range (length over.way.entries) ≡ Some range
  pub inside : range.from + passed + left ≤ range.to
  pub texts : AnswersFrom (record over { query = without_last over.query }) passed range.from []
      (done_answer text None)

-- nothing yet
abbrev pub IsNothing : ℕ → List ℕ → Type 0
IsNothing passed text = (passed ≡ 0) × (text ≡ [])

-- nothing yet, or those of this way
abbrev pub BegunBy : QueryOver → (passed left : ℕ) → List ℕ → Type 0
BegunBy over passed left text = IsNothing passed text ⊎ BegunOn over passed left text

-- nothing yet, or those of the way that the bytes have
abbrev pub IsBegun : Query → List ℕ → (passed left : ℕ) → List ℕ → Type 0
IsBegun query bytes passed left text =
    IsNothing passed text ⊎ ((way : Way) × IsWay bytes way × BegunOn (query_over query bytes way) passed left text)

-- ---- commands of one entry

-- at most one entry is read, and no text comes after it
pub record PutsOneText (query : Query) : Type 0 where
  pub one : (count : ℕ) (range : Range) → query.range count ≡ Some range → range.to ≤ range.from + 1
  pub nothing_last : (way : Way) (read : List EntryView) → query.last way read ≡ Ok []
