-- What the calls of a command do in a run: at one entry, and after the last.
use Rattle.std.specs.Prelude.{◌≡◌, ◌<◌, ℕ, Option, Some, Result, Ok, Err, List, [], ◌∷◌, ◌++◌, length}
use Rattle.lr_bits.specs.Telling.{KeepsTelling}
use Rattle.lr_io.specs.declared.sink.Sink.{Ghosts as SinkOf}
use Rattle.lr_disk.specs.Reads.{IsOnlyRead}
use Rattle.lr_disk.specs.declared.disk.Disk.{Ghosts as DiskOf}
use Rattle.lr_shelf_format.specs.Way.{Way}
use Rattle.lr_shelf.specs.Kept.{kept_by}
use Rattle.lr_shelf.specs.declared.shelf.Shelf.{Shelf}
use Rattle.lr_causes.specs.declared.cause.Party.TheVariants.{Disk, Output}
use Rattle.lr_causes.specs.declared.cause.Refusal.{Refusal}
use Rattle.lr_causes.specs.declared.cause.Cause.{Cause}
use Rattle.lr_causes.specs.declared.cause.Cause.TheVariants.{Failed, NoMemory, Refused}
use Rattle.lr_cmd_shelf.specs.Queries.{Query, EntryView, entry_at, fate_of}
use Rattle.lr_cmd_shelf.specs.Read.{WasSeen}
use Rattle.lr_causes.specs.Outside.{Outlets, OutletsOf}
use Rattle.lr_causes.specs.Puts.{Puts, PutFails}

module _ {O : Type 0} (out : SinkOf O) (fate : Result (List ℕ) Refusal) where
  -- the text was put
  pub record PutsText (o o' : O) : Type 0 where
    pub text : List ℕ
    pub is : fate ≡ Ok text
    pub puts : Puts out text o o'

  -- a part of the text was put
  pub record CutsText (o o' : O) : Type 0 where
    pub text : List ℕ
    pub is : fate ≡ Ok text
    pub some : 0 < length text
    pub fails : PutFails out text o o'

  -- why the text was not put; where memory is refused nothing of it was
  abbrev pub TextStops : Cause → O → O → Type 0
  TextStops (Failed Output) o o' = CutsText o o'
  TextStops NoMemory o o' = o' ≡ o
  TextStops (Refused refusal) o o' = (fate ≡ Err refusal) × (o' ≡ o)
  TextStops _ o o' = ⊥

-- where a run stands: what it asks, what it saw, and the number of the entry that is next
pub record AtEntry : Type 1 where
  pub query : Query
  pub way : Way
  pub read : List EntryView
  pub number : ℕ

abbrev pub standing_at : Query → Way → List EntryView → ℕ → AtEntry
standing_at query way read number = record { query = query; way = way; read = read; number = number }

module _ {D O : Type 0} (world : OutletsOf D O) (at : AtEntry) where
  -- the text of the entry was put, and it was gathered
  pub record TakesEntry (gathers : List EntryView → Type 0) (w w' : Outlets D O) : Type 0 where
    pub seen : EntryView
    pub was : WasSeen world.disk w.disk at.query.sees (entry_at at.way at.number) (Some seen)
    pub puts : PutsText world.out (at.query.fate at.read at.number seen) w.out w'.out
    pub gathered : gathers (at.read ++ seen ∷ [])

  -- what stands there is known, and its text was not put
  pub record SeenStops (cause : Cause) (w w' : Outlets D O) : Type 0 where
    pub seen : Option EntryView
    pub was : WasSeen world.disk w.disk at.query.sees (entry_at at.way at.number) seen
    pub stops : TextStops world.out (fate_of at.query at.way at.read at.number seen) cause w.out w'.out

  -- why an entry was not taken
  abbrev pub EntryStops : Cause → Outlets D O → Outlets D O → Type 0
  EntryStops (Failed Disk) w w' = w'.out ≡ w.out
  EntryStops NoMemory w w' = w'.out ≡ w.out
  EntryStops cause w w' = SeenStops cause w w'

-- a call that reads the disk alone, and keeps the shelf as it is
pub record ReadsOnly {D : Type 0} (disk : DiskOf D) (shelf shelf' : Shelf) (d d' : D) : Type 0 where
  pub kept : kept_by shelf' ≡ kept_by shelf
  pub tell : KeepsTelling (disk.tells d) (disk.tells d')
  pub only_read : IsOnlyRead disk d d'
