-- What `transmit` put once it is done, and what a receiver makes of it.
use Rattle.std.specs.Prelude.{◌≡◌, ◌⊎◌, ◌+◌, ◌-◌, ◌++◌, ◌∷◌, ℕ, zero, suc, Some, List, []}
use Rattle.lr_bits.specs.File.{File}
use Rattle.lr_frame.specs.Outcomes.{outcomes_of_symbols}
use Rattle.lr_lock.specs.Symbols.{symbols_of}
use Rattle.lr_shelf_format.specs.Way.{Gone, IsFound, IsWay, Sound, Way}
use Rattle.lr_shelf_format.specs.declared.entry.Entry.{Entry}
use Rattle.lr_shelf_format.specs.declared.stored.Stored.{Stored}
use Rattle.lr_uplink.specs.Received.{AreFilesOf}
use Rattle.lr_causes.specs.Outside.{Outlets, OutletsOf}
use Rattle.lr_causes.specs.declared.cause.Cause.{Cause}
use Rattle.lr_cmd_shelf.specs.Queries.{entry_at}
use Rattle.lr_cmd_shelf.specs.Runs.{IsDone}
use Rattle.lr_cmd_transmit.specs.Transmit.{Sending, sent_bytes}

-- a sound file stands at the entry, and it is the first of these
pub record FileThen (bytes : List ℕ) (entry : Entry) (Others : List File → Type 0) (files : List File) : Type 0 where
  pub stored : Stored
  pub found : IsFound bytes entry (Some (Sound stored))
  pub others : List File
  pub are_others : Others others
  pub joined : files ≡ stored.file ∷ others

-- The files of this many entries, from this number on. One that is gone has none, and each other one is sound.
abbrev pub AreFilesBetween : List ℕ → Way → (left number : ℕ) → List File → Type 0
AreFilesBetween bytes way zero number files = files ≡ []
AreFilesBetween bytes way (suc left) number files =
    (IsFound bytes (entry_at way number) (Some Gone) × AreFilesBetween bytes way left (number + 1) files)
    ⊎ FileThen bytes (entry_at way number) (AreFilesBetween bytes way left (number + 1)) files

module _ {D O : Type 0} (world : OutletsOf D O) (asked : Sending) where
  -- What was put is what some files are sent as, and a receiver of it finds them. Where the disk tells its contents,
  -- they are those of the entries from one number up to another.
  pub record IsTransmitted (w w' : Outlets D O) : Type 0 where
    pub put : List ℕ
    pub got : world.out.contents w'.out ≡ world.out.contents w.out ++ put
    pub files : List File
    pub sent_as : put ≡ sent_bytes asked.line asked.wrong files
    pub received : AreFilesOf (outcomes_of_symbols asked.line (symbols_of put)) files
    pub are : world.disk.tells w.disk → (way : Way) × IsWay (world.disk.contents w.disk) way
        × AreFilesBetween (world.disk.contents w.disk) way (asked.to - asked.from) asked.from files

  -- Where the call is done, over every disk, this is what it put.
  abbrev pub Transmits : Cause → Outlets D O → Outlets D O → Type 0
  Transmits cause w w' = IsDone cause → world.out.tells w.out → IsTransmitted w w'
