-- How far `receive` has come in its input. No clause of a public call cites this.
use Rattle.std.specs.Prelude.{◌≡◌, ◌⊎◌, ◌<◌, ◌≤◌, ◌+◌, ℕ, false, List, [], ◌++◌, length, take}
use Rattle.lr_bits.specs.Faults.{Rose}
use Rattle.lr_bits.specs.declared.outcome.Outcome.{Outcome}
use Rattle.lr_bits.specs.declared.placed.Placed.{Placed}
use Rattle.lr_io.specs.declared.sink.Sink.{Ghosts as SinkOf}
use Rattle.lr_disk.specs.Pending.{NothingPending}
use Rattle.lr_forms.specs.declared.forms.Decoding.{Decoding}
use Rattle.lr_layers.specs.Layers.{mended_numbers_of}
use Rattle.lr_layers.specs.Standing.{numbers}
use Rattle.lr_shelf.specs.Kept.{kept_by}
use Rattle.lr_causes.specs.declared.cause.Cause.{Cause}
use Rattle.lr_causes.specs.declared.cause.Cause.TheVariants.{Failed, Refused}
use Rattle.lr_causes.specs.declared.cause.Party.TheVariants.{Disk, Output}
use Rattle.lr_causes.specs.declared.cause.Refusal.TheVariants.{Capacity}
use Rattle.lr_cmd_receive.specs.declared.receive_counts.ReceiveCounts.{ReceiveCounts}
use Rattle.lr_forms.specs.declared.forms.Stop.{Stop}
use Rattle.lr_forms.specs.declared.forms.Input.TheVariants.{Symbols}
use Rattle.lr_reading.specs.Inputs.{outcomes_of_bytes}
use Rattle.lr_reading.specs.Runs.{ReadsInput}
use Rattle.lr_cmd_receive.specs.Noted.{NotedFile, noted_of_outcomes, placed_files}
use Rattle.lr_causes.specs.Causes.{IsEarlier, cause_at}
use Rattle.lr_causes.specs.Outside.{Outlets, OutletsOf, Outside, World, counts_in, outlets_in, outside}
use Rattle.lr_causes.specs.Outside.{TellOn, world_outlets}
use Rattle.lr_causes.specs.Counts.{CountsTell}
use Rattle.lr_cmd_receive.specs.First.{SourceBesides}
use Rattle.lr_shelf.specs.InitialShelves.{HoldsStill, InitialShelf, LeavesPrefixes}
use Rattle.lr_cmd_receive.specs.Onto.{ChangesFor, ChangesImagesFor, IsFullWith}
use Rattle.lr_reading.specs.Readers.{HaveCome, MayWait, leeway_for}
use Rattle.lr_reading.specs.Reading.{EndsFor, IsRead, WhenLastAsked}
use Rattle.lr_causes.specs.Puts.{GotText, PutStops, Puts}
use Rattle.lr_cmd_receive.specs.Receive.{AreInTime, CutsLast, IsWorkDone, ReceiveQuery, Run, counts_line}
use Rattle.lr_cmd_receive.specs.Receive.{files_asked, receive_last}
use Rattle.lr_cmd_receive.specs.Shelved.{HasShelved, MayStop, ShelfIn, ShelvesSoFar, StopsShelving, shelf_in, way_in}
use Rattle.lr_cmd_receive.specs.Shelving.{AreAcknowledged, StopsBy, StopsInLines, shelved_lines}

-- the last line of what was read and counted
abbrev pub sums_line : ReceiveCounts → List ℕ
sums_line sums =
    counts_line sums.totals.symbols sums.totals.frames (numbers sums.counts) sums.totals.left
    sums.totals.stop

module _ {O : Type 0} (out : SinkOf O) (sums : ReceiveCounts) where
  abbrev pub PutsLast : O → O → Type 0
  PutsLast o o' = Puts out (sums_line sums) o o'

  abbrev pub LastStops : Cause → O → O → Type 0
  LastStops cause o o' = PutStops out (sums_line sums) cause o o'

-- over every disk: how a run ends onto the shelf that was loaded
pub record EndsOver {D O : Type 0} (cause : Cause) (files : List Placed) (old : ShelfIn (Outlets D O))
    (w' : Outlets D O) : Type 0 where
  pub full : (needed most : ℕ) → cause ≡ Refused (Capacity needed most)
      → IsFullWith (way_in old) needed most files
  pub same_disk : files ≡ [] → w'.disk ≡ old.lent.disk
  pub silent : files ≡ [] → IsEarlier cause → w'.out ≡ old.lent.out
  pub kind : files ≡ [] → cause ≡ Failed Disk → ⊥

-- the run that this is, onto that shelf, where these bytes were taken
abbrev pub run_of : ReceiveQuery → InitialShelf → List ℕ → Run
run_of asked initial bytes = record { asked = asked; initial = initial; bytes = bytes }

-- of the outcomes of the bytes taken all but the last few are worked through, and so are all that as many symbols or
-- bytes follow as `ahead` says: their files are acknowledged
pub record FewWait {D O : Type 0} (world : OutletsOf D O) (run : Run) (w w' : Outlets D O) : Type 0 where
  pub worked : List Outcome
  pub late : List Outcome
  pub split : outcomes_of_bytes run.asked.input run.bytes ≡ worked ++ late
  pub few : length late ≤ (leeway_for run.asked.input run.asked.workers).at_end
  pub close : (count : ℕ)
      → HaveCome run.asked.input (leeway_for run.asked.input run.asked.workers).ahead run.bytes count
      → count ≤ length worked
  pub acknowledged : AreAcknowledged world run.initial (files_asked run.asked run.bytes)
      (noted_of_outcomes run.asked.mend worked) w w'

-- as the source is asked, which gave these bytes in these pieces: the files of the outcomes that count, but for the few
-- that may wait, are the first ones of these
abbrev pub FilesComeInTime : ReceiveQuery → List NotedFile → List ℕ → List (List ℕ) → Type 0
FilesComeInTime asked files given pieces =
    (count few : ℕ) → MayWait asked.input (leeway_for asked.input asked.workers) given pieces few
    → HaveCome asked.input (leeway_for asked.input asked.workers).tail given (count + few)
    → (later : List NotedFile)
    × (files ≡ noted_of_outcomes asked.mend (take count (outcomes_of_bytes asked.input given)) ++ later)

-- what a run leaves that didn't do its work, of shelving or of the last line
abbrev pub StopsOnto : {S D O : Type 0} → World S D O → Run → Cause → Outside S D O → Outside S D O → Type 0
StopsOnto world run cause w w' =
    StopsBy (world_outlets world) run.initial (files_asked run.asked run.bytes) cause (outlets_in w) (outlets_in w')
    ⊎ ((cause ≡ Failed Output) × CutsLast world run.asked run.bytes (length run.initial.way.entries) w w'
    × HoldsStill run.initial (placed_files (files_asked run.asked run.bytes)) world.disk w'.disk)

module _ {S D O : Type 0} (world : World S D O) (asked : ReceiveQuery) (bytes : List ℕ) (number : ℕ) (cause : Cause)
    (w w' : Outside S D O) where
  -- the work is done: why no more was taken, and what `out` got; the first file has that number
  pub record DoesWork : Type 0 where
    pub stop : Stop
    pub is : cause ≡ cause_at stop
    pub reason : EndsFor world.source stop asked.limit bytes w.source w'.source
    pub got : GotText world.out
        (shelved_lines number (files_asked asked bytes) ++ receive_last asked.mend asked.input bytes stop) w.out w'.out

  -- it isn't: what `out` got
  abbrev pub StopsPutting : Type 0
  StopsPutting = StopsInLines world.out cause number (files_asked asked bytes) w.out w'.out
      ⊎ ((cause ≡ Failed Output) × CutsLast world asked bytes number w w')

-- what a run leaves after what was there: all files where the work is done, or else as many as it came to
pub record EndsOnto {S D O : Type 0} (world : World S D O) (run : Run) (cause : Cause) (w w' : Outside S D O) : Type 0
  where
    pub stands : IsWorkDone cause
        → HoldsStill run.initial (placed_files (files_asked run.asked run.bytes)) world.disk w'.disk
    pub stops : (IsWorkDone cause → ⊥) → StopsOnto world run cause w w'

module _ {S D O : Type 0} (world : World S D O) (asked : ReceiveQuery) where
  -- the input ended, and all its files are shelved, whatever shelf they came onto
  pub record ReadsAll (sums : ReceiveCounts) (old new : ShelfIn (Outside S D O)) : Type 0 where
    pub bytes : List ℕ
    pub ends : ReadsInput world.source asked.input asked.limit bytes sums.totals old.lent.source
        new.lent.source
    pub counts : numbers sums.counts ≡ mended_numbers_of asked.mend (outcomes_of_bytes asked.input bytes)
    pub shelved : HasShelved (world_outlets world) (files_asked asked bytes)
        (shelf_in old.shelf (outlets_in old.lent)) (shelf_in new.shelf (outlets_in new.lent))
    pub in_time : WhenLastAsked world.source
        (FilesComeInTime asked (files_asked asked bytes)) bytes old.lent.source new.lent.source

  -- shelving stopped among the files of these bytes
  pub record ReadsSome (cause : Cause) (old : ShelfIn (Outside S D O)) (w' : Outside S D O) : Type 0 where
    pub bytes : List ℕ
    pub read : IsRead world.source asked.limit bytes old.lent.source w'.source
    pub stopped : StopsShelving (world_outlets world) cause (files_asked asked bytes)
        (shelf_in old.shelf (outlets_in old.lent)) (outlets_in w')
    -- more sharply: among these files, up to those of the last outcome
    pub files : List NotedFile
    pub early : StopsShelving (world_outlets world) cause files (shelf_in old.shelf (outlets_in old.lent))
        (outlets_in w')
    -- of symbols they are the first ones of all that the source gives, where it had not failed nor reached the limit
    pub first : (decoding : Decoding) → asked.input ≡ Symbols decoding → world.source.tells old.lent.source
        → length bytes < asked.limit
        → (Rose (world.source.faults old.lent.source) (world.source.faults w'.source) → ⊥)
        → (rest : List NotedFile) × (files_asked asked (bytes ++ world.source.left w'.source) ≡ files ++ rest)
    pub timely : (initial : InitialShelf) (before : Outlets D O)
        → ShelvesSoFar (world_outlets world) initial [] before (shelf_in old.shelf (outlets_in old.lent))
        → FewWait (world_outlets world) (run_of asked initial bytes) before (outlets_in w')
    pub in_time : (initial : InitialShelf) (before : Outlets D O)
        → ShelvesSoFar (world_outlets world) initial [] before (shelf_in old.shelf (outlets_in old.lent))
        → WhenLastAsked world.source (AreInTime (world_outlets world) (run_of asked initial bytes) before
        (outlets_in w')) bytes old.lent.source w'.source

  -- how a run ends that took some bytes, whatever shelf it was onto, and what a crash may leave of it
  pub record EndsRun (cause : Cause) (old : ShelfIn (Outside S D O)) (w' : Outside S D O) : Type 0 where
    pub bytes : List ℕ
    pub read : IsRead world.source asked.limit bytes old.lent.source w'.source
    pub kind : MayStop cause ⊎ IsWorkDone cause
    pub tell : TellOn (world_outlets world) (outlets_in old.lent) (outlets_in w')
    pub first : (kept_by old.shelf).failed ≡ false
        → CountsTell SourceBesides cause (counts_in world old.lent) (counts_in world w')
    pub ends : (initial : InitialShelf) (before : Outlets D O)
        → ShelvesSoFar (world_outlets world) initial [] before (shelf_in old.shelf (outlets_in old.lent))
        → LeavesPrefixes world.disk initial (placed_files (files_asked asked bytes)) before.disk w'.disk
        × EndsOnto world (run_of asked initial bytes) cause (outside old.lent.source before.disk before.out) w'
        × FewWait (world_outlets world) (run_of asked initial bytes) before (outlets_in w')
        × WhenLastAsked world.source (AreInTime (world_outlets world) (run_of asked initial bytes) before
        (outlets_in w')) bytes old.lent.source w'.source
    pub over : EndsOver cause (placed_files (files_asked asked bytes)) (shelf_in old.shelf (outlets_in old.lent))
        (outlets_in w')
    pub ended : IsWorkDone cause → DoesWork world asked bytes (length (way_in old).entries) cause old.lent w'
    pub stopped : (IsWorkDone cause → ⊥)
        → StopsPutting world asked bytes (length (way_in old).entries) cause old.lent w'
    pub outside : world.disk.tells old.lent.disk
        → ChangesFor (way_in old) (placed_files (files_asked asked bytes)) (world.disk.contents old.lent.disk)
        (world.disk.contents w'.disk)
    pub moments : world.disk.tells old.lent.disk → NothingPending world.disk old.lent.disk
        → (w'.disk ≡ old.lent.disk)
        ⊎ ChangesImagesFor world.disk (way_in old) (placed_files (files_asked asked bytes)) old.lent.disk w'.disk
