-- What a command that reads entries does to `out` and to the disk, for each cause.
use Rattle.std.specs.Prelude.{◌≡◌, ◌⊎◌, ◌<◌, ◌+◌, ℕ, Option, Some, None, Ok, Err, List, ◌++◌, length}
use Rattle.std.specs.List.{concat}
use Rattle.lr_io.specs.declared.sink.Sink.{Ghosts as SinkOf}
use Rattle.lr_io.specs.Pieces.{PutsPart}
use Rattle.lr_disk.specs.Reads.{IsOnlyRead}
use Rattle.lr_causes.specs.declared.cause.Party.TheVariants.{Disk, Output}
use Rattle.lr_causes.specs.declared.cause.Refusal.{Refusal}
use Rattle.lr_causes.specs.declared.cause.Refusal.TheVariants.{NotAShelf, NoSuchFile}
use Rattle.lr_causes.specs.declared.cause.Cause.{Cause}
use Rattle.lr_causes.specs.declared.cause.Cause.TheVariants.{Done, DoneWith, Failed, NoMemory, Refused}
use Rattle.lr_causes.specs.declared.note.Note.{Note}
use Rattle.lr_cmd_shelf.specs.Queries.{Query, QueryOn, Answer, IsAnswer, PutsOneText, EntryView, done_answer}
use Rattle.lr_cmd_shelf.specs.Queries.{refused_answer}
use Rattle.lr_cmd_shelf.specs.Read.{Allowed, Reading, EntriesTaken, HasMore, LastBecomes, ThenBecomes}
use Rattle.lr_cmd_shelf.specs.Read.{reading_by, reading_on}
use Rattle.lr_causes.specs.Causes.{done_with}
use Rattle.lr_causes.specs.Counts.{CountsTell, NoneBesides}
use Rattle.lr_causes.specs.Outside.{Outlets, OutletsOf, outlet_counts, TellOn}
use Rattle.lr_causes.specs.Puts.{GotPart, GotText}

-- the work was done
abbrev pub IsDone : Cause → Type 0
IsDone Done = Unit {0}
IsDone (DoneWith note) = Unit {0}
IsDone _ = ⊥

-- the cause of a run that puts an answer
abbrev pub cause_for : Option Refusal → Option Note → Cause
cause_for None told = done_with told
cause_for (Some refusal) told = Refused refusal

-- an event that comes before the end of an answer; `out` fails only in a text
abbrev pub Precedes : Cause → Answer → Type 0
Precedes (Failed Disk) answer = Unit {0}
Precedes (Failed Output) answer = 0 < length answer.text
Precedes NoMemory answer = Unit {0}
Precedes _ answer = ⊥

-- the causes that cut no text
abbrev pub CutsNothing : Cause → Type 0
CutsNothing (Failed Disk) = Unit {0}
CutsNothing NoMemory = Unit {0}
CutsNothing (Refused refusal) = Unit {0}
CutsNothing _ = ⊥

module _ {O : Type 0} (out : SinkOf O) (may : Allowed) where
  -- there is an answer that refuses nothing and tells this, and its text was put
  pub record PutsAll (note : Option Note) (o o' : O) : Type 0 where
    pub text : List ℕ
    pub is : may.answer (done_answer text note)
    pub put : out.tells o → out.contents o' ≡ out.contents o ++ text

  -- the texts of the first entries were put, and at least this many entries are left
  pub record PutsFirst (left : ℕ) (o o' : O) : Type 0 where
    pub passed : ℕ
    pub text : List ℕ
    pub begun : may.begin passed left text
    pub put : out.tells o → out.contents o' ≡ out.contents o ++ text
    pub untouched : passed ≡ 0 → o' ≡ o

  -- they are all of an answer with this refusal
  pub record PutsRefused (refusal : Refusal) (o o' : O) : Type 0 where
    pub first : PutsFirst 0 o o'
    pub is : may.answer (refused_answer first.text refusal)

  -- `out` failed in the text of an entry, or in the last one: those before it were put, and a part of it
  pub record PutsCut (o o' : O) : Type 0 where
    pub passed : ℕ
    pub text : List ℕ
    pub one : List ℕ
    pub begun : may.begin passed 0 text
    pub next : may.begin (passed + 1) 0 (text ++ one)
        ⊎ ((note : Option Note) × may.answer (done_answer (text ++ one) note))
    pub some : 0 < length one
    pub part : out.tells o → PutsPart one (out.contents o ++ text) (out.contents o')

  -- what `out` got, for each cause
  abbrev pub Got : Cause → O → O → Type 0
  Got Done o o' = PutsAll None o o'
  Got (DoneWith note) o o' = PutsAll (Some note) o o'
  Got (Failed Disk) o o' = PutsFirst 1 o o'
  Got (Failed Output) o o' = PutsCut o o'
  Got NoMemory o o' = PutsFirst 0 o o'
  Got (Refused refusal) o o' = PutsRefused refusal o o'
  Got _ o o' = ⊥

module _ {D O : Type 0} (world : OutletsOf D O) where
  module _ (asked : Reading) (w w' : Outlets D O) where
    abbrev pub Taken : Type 0
    Taken = EntriesTaken world.disk w.disk asked

    -- all entries of the range were read, their texts and the last text were put, and this is told of them
    pub record TakesAll (note : Option Note) : Type 0 where
      pub taken : Taken
      pub last : List ℕ
      pub ends : LastBecomes world.disk w.disk asked taken (Ok last)
      pub note_is : asked.query.note taken.read ≡ note
      pub put : GotText world.out (concat taken.texts ++ last) w.out w'.out

    -- the texts of the entries that were read were put, and nothing of what comes after them
    pub record TakesFirst (After : Taken → Type 0) : Type 0 where
      pub taken : Taken
      pub after : After taken
      pub put : GotText world.out (concat taken.texts) w.out w'.out

    -- and a part of the text that comes after them
    pub record TakesPart : Type 0 where
      pub taken : Taken
      pub one : List ℕ
      pub some : 0 < length one
      pub next : ThenBecomes world.disk w.disk asked taken (Ok one)
      pub part : GotPart world.out (concat taken.texts) one w.out w'.out

    -- nothing was read, and nothing put
    abbrev pub TakesNone : Type 0
    TakesNone = w'.out ≡ w.out

    -- nothing was, since no shelf stands there, or since a number isn't allowed
    abbrev pub IsRefusedFirst : Refusal → Type 0
    IsRefusedFirst (NotAShelf at) = TakesNone
    IsRefusedFirst (NoSuchFile count) = (asked.query.range count ≡ None) × TakesNone
    IsRefusedFirst _ = ⊥

    -- what was read and put over every disk, for each cause that there may be
    abbrev pub Takes : Cause → Type 0
    Takes Done = TakesAll None
    Takes (DoneWith note) = TakesAll (Some note)
    Takes (Failed Disk) = TakesNone ⊎ TakesFirst (HasMore world.disk w.disk asked)
    Takes (Failed Output) = TakesPart
    Takes NoMemory = TakesNone ⊎ TakesFirst (λ taken. Unit {0})
    Takes (Refused refusal) =
        IsRefusedFirst refusal
        ⊎ TakesFirst (λ taken. ThenBecomes world.disk w.disk asked taken (Err refusal))
    Takes _ = ⊥

    -- what was gathered of all entries, where the work is done
    module _ {G : Type 0} (gathers : G → List EntryView → Type 0) where
      abbrev pub Gathers : (cause : Cause) → Takes cause → Type 0
      Gathers Done takes = (gathered : G) × gathers gathered takes.taken.read
      Gathers (DoneWith note) takes = (gathered : G) × gathers gathered takes.taken.read
      Gathers _ takes = Unit {0}

  pub record RunsReading (asked : Reading) (cause : Cause) (w w' : Outlets D O) : Type 0 where
    -- over any disk
    pub takes : Takes asked w w' cause
    -- no party failed but the one that the cause names
    pub counted : CountsTell NoneBesides cause (outlet_counts world w) (outlet_counts world w')
    pub tell : TellOn world w w'
    -- the disk is only read, whatever it tells
    pub only_read : IsOnlyRead world.disk w.disk w'.disk
    -- `out` got what the bytes answer; a refusal comes only where it is that of the answer, with its values
    pub got : world.disk.tells w.disk
        → Got world.out (asked.allowed (world.disk.contents w.disk)) cause w.out w'.out
    -- over any disk, where the only text is that of one entry
    pub untouched : PutsOneText asked.query → CutsNothing cause → w'.out ≡ w.out

  -- a run over the entries of a shelf of this way
  abbrev pub RunsOn : QueryOn → Cause → Outlets D O → Outlets D O → Type 0
  RunsOn on = RunsReading (reading_on on)

  -- a whole run
  pub record RunsOver (query : Query) (cause : Cause) (w w' : Outlets D O) : Type 0 where
    pub runs : RunsReading (reading_by query) cause w w'
    -- what the bytes answer decides, unless an event comes before: done, or refused for this
    pub ends : (answer : Answer) → world.disk.tells w.disk
        → IsAnswer query (world.disk.contents w.disk) answer
        → (cause ≡ cause_for answer.refusal answer.note) ⊎ Precedes cause answer

  -- and what was gathered of the entries that it read
  module _ {G : Type 0} (gathers : G → List EntryView → Type 0) (cause : Cause) (w w' : Outlets D O) where
    pub record GathersOn (on : QueryOn) : Type 0 where
      pub runs : RunsOn on cause w w'
      pub gathered : Gathers (reading_on on) w w' gathers cause runs.takes

    pub record GathersOver (query : Query) : Type 0 where
      pub runs : RunsOver query cause w w'
      pub gathered : Gathers (reading_by query) w w' gathers cause runs.runs.takes
