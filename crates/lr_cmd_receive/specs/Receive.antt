-- What `receive` does to the outside.
use Rattle.std.specs.Prelude.{◌≡◌, ◌⊎◌, ◌+◌, ℕ, List, [], ◌++◌, length, take}
use Rattle.lr_bits.specs.declared.outcome.Outcome.{Outcome}
use Rattle.lr_bits.specs.declared.placed.Placed.{Placed}
use Rattle.lr_disk.specs.Reads.{IsOnlyRead}
use Rattle.lr_disk.specs.Pending.{EachImageSince, NothingPending}
use Rattle.lr_layers.specs.Layers.{CountsView, mended_numbers_of}
use Rattle.lr_shelf_format.specs.Way.{IsNoShelfAt, IsWay, Way}
use Rattle.lr_forms.specs.declared.forms.Stop.{Stop}
use Rattle.lr_catalog.specs.declared.summary.Summary.TheVariants.{Receive}
use Rattle.lr_catalog.specs.Summaries.{summary_line}
use Rattle.lr_causes.specs.Puts.{GotPart, GotText}
use Rattle.lr_causes.specs.declared.cause.Cause.{Cause}
use Rattle.lr_causes.specs.declared.cause.Cause.TheVariants.{Done, Failed, NoMemory, Refused}
use Rattle.lr_causes.specs.declared.cause.Party.TheVariants.{Source, Disk, Output}
use Rattle.lr_causes.specs.declared.cause.Refusal.TheVariants.{NotAShelf, Capacity}
use Rattle.lr_forms.specs.declared.forms.Input.{Input}
use Rattle.lr_causes.specs.Causes.{IsEarlier, MayEndBefore, cause_at}
use Rattle.lr_causes.specs.Outside.{NoFault, Outlets, OutletsOf, Outside, World, counts_in}
use Rattle.lr_causes.specs.Outside.{TellOn, outlets_in, world_outlets}
use Rattle.lr_causes.specs.Counts.{CountsTell}
use Rattle.lr_cmd_receive.specs.First.{SourceBesides}
use Rattle.lr_reading.specs.Inputs.{outcomes_of_bytes, bytes_left_over}
use Rattle.lr_reading.specs.Readers.{HaveCome, MayWait, leeway_for}
use Rattle.lr_cmd_receive.specs.Inputs.{files_of_bytes}
use Rattle.lr_cmd_receive.specs.Noted.{NotedFile, noted_of_outcomes, placed_files}
use Rattle.lr_cmd_receive.specs.Onto.{ChangesFor, IsFullWith}
use Rattle.lr_reading.specs.Reading.{IsRead, EndsFor, WhenLastAsked}
use Rattle.lr_shelf.specs.Prefixes.{HasRoom}
use Rattle.lr_shelf.specs.InitialShelves.{InitialShelf, HoldsPrefix, HoldsStill, LeavesPrefixes, StandsWith}
use Rattle.lr_cmd_receive.specs.Shelving.{AreAcknowledged, StopsBy, StopsInLines, shelved_lines}

-- how many bytes were taken, how many outcomes there are, of each kind, how many good packets and files, and how many
-- bytes are left
abbrev pub counts_line : ℕ → ℕ → CountsView → ℕ → Stop → List ℕ
counts_line symbols frames numbers left stop =
    summary_line (Receive (record {
      symbols = symbols;
      frames = frames;
      restored = numbers.restored;
      lost = numbers.lost;
      packets = numbers.packets;
      files = numbers.files;
      left = left;
    })) stop

-- the last line of outcomes, where an image has at most `mend` fillers
unfoldable pub receive_count : ℕ → List Outcome → ℕ → ℕ → Stop → List ℕ
receive_count mend outcomes symbols left stop =
    counts_line symbols (length outcomes) (mended_numbers_of mend outcomes) left stop

-- the last line of the bytes read
unfoldable pub receive_last : ℕ → Input → List ℕ → Stop → List ℕ
receive_last mend input bytes stop =
    receive_count mend (outcomes_of_bytes input bytes) (length bytes) (bytes_left_over input bytes) stop

-- the causes that a run may have, over any disk
abbrev pub IsReceiveCause : Cause → Type 0
IsReceiveCause Done = Unit {0}
IsReceiveCause (Failed party) = Unit {0}
IsReceiveCause NoMemory = Unit {0}
IsReceiveCause (Refused (NotAShelf at)) = Unit {0}
IsReceiveCause (Refused (Capacity needed capacity)) = Unit {0}
IsReceiveCause _ = ⊥

-- the causes of a run that put its last line: all files of the bytes read are shelved
abbrev pub IsWorkDone : Cause → Type 0
IsWorkDone Done = Unit {0}
IsWorkDone (Failed Source) = Unit {0}
IsWorkDone _ = ⊥

-- what `receive` is asked: how many fillers an image may have, none where nothing is mended; the form of its input; how
-- many work on windows; and how many bytes it takes at most
pub record ReceiveQuery : Type 0 where
  pub mend : ℕ
  pub input : Input
  pub workers : ℕ
  pub limit : ℕ

abbrev pub receive_query : (mend : ℕ) → Input → (workers limit : ℕ) → ReceiveQuery
receive_query mend input workers limit =
    record { mend = mend; input = input; workers = workers; limit = limit }

-- the files of the bytes that it took
abbrev pub files_asked : ReceiveQuery → List ℕ → List NotedFile
files_asked asked bytes = files_of_bytes asked.mend asked.input bytes

-- a run: what it was asked, what was there before it, and the bytes that it took
pub record Run : Type 0 where
  pub asked : ReceiveQuery
  pub initial : InitialShelf
  pub bytes : List ℕ

-- ---- how a run ends, over every disk, whatever it tells and whatever is pending on it

module _ {S D O : Type 0} (world : World S D O) (asked : ReceiveQuery) (bytes : List ℕ) where
  -- The work is done: why no more of the input was taken, and `out` got the lines of all files, the first of which has
  -- this number, and the last line.
  pub record EndsWork (cause : Cause) (w w' : Outside S D O) : Type 0 where
    pub stop : Stop
    pub is : cause ≡ cause_at stop
    pub reason : EndsFor world.source stop asked.limit bytes w.source w'.source
    pub number : ℕ
    pub got : GotText world.out
        (shelved_lines number (files_asked asked bytes) ++ receive_last asked.mend asked.input bytes stop) w.out w'.out
    -- where the disk has a way, the first file comes after its entries
    pub numbered : (way : Way) → world.disk.tells w.disk → IsWay (world.disk.contents w.disk) way
        → number ≡ length way.entries
    -- the files stand after what was there, and nothing is pending
    pub stand : (initial : InitialShelf) → world.disk.tells w.disk
        → StandsWith initial [] (world.disk.contents w.disk)
        → HoldsStill initial (placed_files (files_asked asked bytes)) world.disk w'.disk

  -- `out` failed in the last line: it got those of all files, and a part of the last one
  pub record CutsLast (number : ℕ) (w w' : Outside S D O) : Type 0 where
    pub stop : Stop
    pub reason : EndsFor world.source stop asked.limit bytes w.source w'.source
    pub part : GotPart world.out (shelved_lines number (files_asked asked bytes))
        (receive_last asked.mend asked.input bytes stop) w.out w'.out

  -- The work isn't done: `out` got the lines of the first files, and where it failed a part of the next line or of the
  -- last one.
  pub record StopsEarly (cause : Cause) (w w' : Outside S D O) : Type 0 where
    pub number : ℕ
    pub lines : StopsInLines world.out cause number (files_asked asked bytes) w.out w'.out
        ⊎ ((cause ≡ Failed Output) × CutsLast number w w')
    -- where the disk has a way, the first file, if there is one, comes after its entries
    pub numbered : (way : Way) → world.disk.tells w.disk → IsWay (world.disk.contents w.disk) way
        → (files_asked asked bytes ≡ [] → ⊥) → number ≡ length way.entries

-- ---- what it leaves after what was there

module _ {D O : Type 0} (world : OutletsOf D O) (run : Run) (w w' : Outlets D O) where
  -- the first outcomes of these bytes, this many, are worked through: their files are acknowledged, as the first ones
  -- of all
  abbrev pub AreWorked : List ℕ → (count : ℕ) → Type 0
  AreWorked bytes count =
      AreAcknowledged world run.initial (files_asked run.asked run.bytes)
      (noted_of_outcomes run.asked.mend (take count (outcomes_of_bytes run.asked.input bytes))) w w'

  -- as the source is asked, which gave these bytes in these pieces: so are those that count, but for the few that may
  -- wait
  abbrev pub AreInTime : List ℕ → List (List ℕ) → Type 0
  AreInTime given pieces =
      (count few : ℕ) → MayWait run.asked.input (leeway_for run.asked.input run.asked.workers) given pieces few
      → HaveCome run.asked.input (leeway_for run.asked.input run.asked.workers).tail given (count + few)
      → AreWorked given count

module _ {S D O : Type 0} (world : World S D O) (run : Run) where
  -- no file of the bytes taken is put off
  pub record PutsNoFileOff (w w' : Outside S D O) : Type 0 where
    -- However the run ended: of the outcomes of the bytes taken all but the last few are worked through, and their
    -- files are acknowledged. Any append may be the one that fails, so this says when a file is shelved.
    pub timely : (count : ℕ)
        → HaveCome run.asked.input 0 run.bytes
        (count + (leeway_for run.asked.input run.asked.workers).at_end)
        → AreWorked (world_outlets world) run (outlets_in w) (outlets_in w') run.bytes count
    -- So are those that as many symbols or bytes follow as `ahead` says.
    pub timely_in_bytes : (count : ℕ)
        → HaveCome run.asked.input (leeway_for run.asked.input run.asked.workers).ahead run.bytes count
        → AreWorked (world_outlets world) run (outlets_in w) (outlets_in w') run.bytes count
    -- And no file waited for the source: when it was last asked, each frame whose window it had given was worked
    -- through, and each block or frame of bytes. Only where more than one work on windows, and it had just given all
    -- that it was asked for, the last few might wait. Any append may be the one that fails, so they were worked through
    -- before that call.
    pub in_time : WhenLastAsked world.source (AreInTime (world_outlets world) run (outlets_in w) (outlets_in w'))
        run.bytes w.source w'.source

  -- the run took these bytes, and they came onto what was there
  pub record Receives (cause : Cause) (w w' : Outside S D O) : Type 0 where
    -- the contents and each crash image hold each file whose line was put whole
    pub held : (whole rest : List NotedFile) (text : List ℕ) → world.out.tells w.out
        → files_asked run.asked run.bytes ≡ whole ++ rest
        → world.out.contents w'.out
        ≡ world.out.contents w.out ++ (shelved_lines (length run.initial.way.entries) whole ++ text)
        → HoldsPrefix world.disk run.initial (placed_files (files_asked run.asked run.bytes)) (length whole) w'.disk
    -- a stop at any moment of the call leaves what was there and a prefix of the files
    pub any_moment : LeavesPrefixes world.disk run.initial (placed_files (files_asked run.asked run.bytes)) w.disk
        w'.disk
    -- What a run leaves that stopped early, in shelving or in the last line. `EndsWork` says what one leaves that did
    -- its work.
    pub stops : (IsWorkDone cause → ⊥)
        → StopsBy (world_outlets world) run.initial (files_asked run.asked run.bytes) cause (outlets_in w)
        (outlets_in w')
        ⊎ ((cause ≡ Failed Output) × CutsLast world run.asked run.bytes (length run.initial.way.entries) w w'
        × HoldsStill run.initial (placed_files (files_asked run.asked run.bytes)) world.disk w'.disk)
    -- where no count rises and all files fit, the work is done or memory was refused
    pub complete : NoFault world w w' → HasRoom run.initial.way (placed_files (files_asked run.asked run.bytes))
        → (cause ≡ Done) ⊎ (cause ≡ NoMemory)

-- ---- the whole call

-- the disk was only read, whatever it tells, and the source and `out` are as they were
pub record IsUntouched {S D O : Type 0} (world : World S D O) (w w' : Outside S D O) : Type 0 where
  pub only_read : IsOnlyRead world.disk w.disk w'.disk
  pub source_stays : w'.source ≡ w.source
  pub out_stays : w'.out ≡ w.out

module _ {S D O : Type 0} (world : World S D O) where
  module _ (asked : ReceiveQuery) (bytes : List ℕ) (cause : Cause) where
    -- What comes of a disk that tells its contents and has a way, whatever its records hold. The bytes of a shelf have
    -- one, and `FilesComeOntoShelves` says that a shelf of items which gets files so is one of the items and the files.
    pub record ComesOnto (w w' : Outside S D O) : Type 0 where
      -- with nothing pending
      pub way : (way : Way) → world.disk.tells w.disk → IsWay (world.disk.contents w.disk) way
          → NothingPending world.disk w.disk
          → Receives world (record {
            asked = asked;
            initial = record { way = way; bytes = world.disk.contents w.disk };
            bytes = bytes;
          }) cause w w'
      -- no file is put off; also with something pending at the start, where a byte was taken
      pub keeps_up : (initial : InitialShelf) → world.disk.tells w.disk
          → StandsWith initial [] (world.disk.contents w.disk) → (bytes ≡ [] → NothingPending world.disk w.disk)
          → PutsNoFileOff world (record { asked = asked; initial = initial; bytes = bytes }) w w'

    -- over every disk that tells its contents the capacity is refused only where the next file's end passes it, which
    -- an empty source never brings about
    pub record MindsCapacity (w w' : Outside S D O) : Type 0 where
      pub full : (way : Way) (needed most : ℕ) → cause ≡ Refused (Capacity needed most) → world.disk.tells w.disk
          → IsWay (world.disk.contents w.disk) way
          → IsFullWith way needed most (placed_files (files_asked asked bytes))
      pub nothing_fits : (needed most : ℕ) → cause ≡ Refused (Capacity needed most)
          → world.source.tells w.source → world.source.left w.source ≡ [] → ⊥

    -- where no file was read, the disk was only read; where it failed or memory was refused, `out` is as it was, and
    -- where it failed, the source too
    pub record LeavesAlone (w w' : Outside S D O) : Type 0 where
      pub only_read : files_asked asked bytes ≡ [] → IsOnlyRead world.disk w.disk w'.disk
      pub silent : files_asked asked bytes ≡ [] → IsEarlier cause → w'.out ≡ w.out
      pub unasked : files_asked asked bytes ≡ [] → cause ≡ Failed Disk → w'.source ≡ w.source

  -- a disk on which no shelf stands is refused, exactly then
  pub record WantsShelf (cause : Cause) (w w' : Outside S D O) : Type 0 where
    pub refused : (at : ℕ) → cause ≡ Refused (NotAShelf at)
        → (world.disk.tells w.disk → IsNoShelfAt (world.disk.contents w.disk) at)
        × IsUntouched world w w'
    pub broken : (at : ℕ) → world.disk.tells w.disk → IsNoShelfAt (world.disk.contents w.disk) at
        → MayEndBefore at cause × IsUntouched world w w'

  -- However the run ended, nothing was written but for the first ones of these files, and they fit the capacity. Nor
  -- does a crash at any moment leave anything else, where nothing was pending.
  pub record WritesOnly (files : List Placed) (w w' : Outside S D O) : Type 0 where
    pub outside : (way : Way) → world.disk.tells w.disk → IsWay (world.disk.contents w.disk) way
        → ChangesFor way files (world.disk.contents w.disk) (world.disk.contents w'.disk)
    pub outside_any_moment : (way : Way) → world.disk.tells w.disk → IsWay (world.disk.contents w.disk) way
        → NothingPending world.disk w.disk
        → EachImageSince world.disk w.disk w'.disk (ChangesFor way files (world.disk.contents w.disk))

-- the whole call, over every disk
pub record ReceiveRun {S D O : Type 0} (world : World S D O) (asked : ReceiveQuery) (cause : Cause)
    (w w' : Outside S D O) : Type 0 where
  pub causes : IsReceiveCause cause
  -- the first event decides
  pub counted : CountsTell SourceBesides cause (counts_in world w) (counts_in world w')
  pub tell : TellOn (world_outlets world) (outlets_in w) (outlets_in w')
  -- these bytes were taken
  pub bytes : List ℕ
  pub read : IsRead world.source asked.limit bytes w.source w'.source
  pub onto : ComesOnto world asked bytes cause w w'
  -- what `out` got, also with something pending at the start, and over a disk that tells nothing
  pub ended : IsWorkDone cause → EndsWork world asked bytes cause w w'
  pub stopped : (IsWorkDone cause → ⊥) → StopsEarly world asked bytes cause w w'
  pub wants : WantsShelf world cause w w'
  pub capacity : MindsCapacity world asked bytes cause w w'
  pub alone : LeavesAlone world asked bytes cause w w'
  pub writes : WritesOnly world (placed_files (files_asked asked bytes)) w w'
