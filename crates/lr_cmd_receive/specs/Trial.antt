-- What `trial` does to the outside.
use Rattle.std.specs.Prelude.{◌≡◌, ◌⊎◌, ◌≤◌, ◌++◌, ℕ, List, [], length}
use Rattle.lr_bits.specs.declared.placed.Placed.{Placed}
use Rattle.lr_io.specs.declared.sink.Sink.{Ghosts as SinkOf}
use Rattle.lr_cmd_receive.specs.declared.test_stream.TheConstants.{TEST_DECODING}
use Rattle.lr_disk.specs.declared.disk.Disk.{Ghosts as DiskOf}
use Rattle.lr_disk.specs.Disk.{Only}
use Rattle.lr_disk.specs.Reads.{IsOnlyRead, IsUnwritten}
use Rattle.lr_disk.specs.Pending.{EachImageSince, NothingPending}
use Rattle.lr_shelf_format.specs.ShelfBytes.{StandsForShelf}
use Rattle.lr_shelf_format.specs.Way.{way_of}
use Rattle.lr_shelf.specs.Init.{IsTaken, IsBlank, IsLeftByInit, new_shelf}
use Rattle.lr_shelf.specs.Shelf.{IsDurable}
use Rattle.lr_forms.specs.declared.forms.Stop.TheVariants.{End}
use Rattle.lr_causes.specs.declared.cause.Cause.{Cause}
use Rattle.lr_causes.specs.declared.cause.Cause.TheVariants.{Done, Failed, NoMemory, Refused}
use Rattle.lr_causes.specs.declared.cause.Party.TheVariants.{Disk, Output}
use Rattle.lr_causes.specs.declared.cause.Refusal.TheVariants.{NotAShelf, Capacity, NotEmpty}
use Rattle.lr_forms.specs.declared.forms.Input.TheVariants.{Symbols}
use Rattle.lr_causes.specs.Causes.{IsEarlier}
use Rattle.lr_causes.specs.Outside.{Outlets, OutletsOf, TellOn, outlet_counts}
use Rattle.lr_causes.specs.Puts.{PutFails, Puts}
use Rattle.lr_causes.specs.Counts.{CountsTell}
use Rattle.lr_cmd_receive.specs.First.{SourceBesides}
use Rattle.lr_cmd_receive.specs.Inputs.{files_of_bytes}
use Rattle.lr_cmd_receive.specs.Noted.{placed_files}
use Rattle.lr_cmd_receive.specs.Onto.{ChangesFor}
use Rattle.lr_cmd_receive.specs.Receive.{receive_last}
use Rattle.lr_shelf.specs.InitialShelves.{with_files}

-- how many bytes the shelf may have
abbrev pub trial_capacity : ℕ
trial_capacity = 1048576

-- the files of these symbols; nothing is mended
abbrev pub trial_files : List ℕ → List Placed
trial_files symbols = placed_files (files_of_bytes 0 (Symbols TEST_DECODING) symbols)

-- these bytes stand for a shelf of that capacity with a prefix of the files of these symbols, with n of them at least
pub record StandsForPart (symbols : List ℕ) (n : ℕ) (bytes : List ℕ) : Type 0 where
  pub first : List Placed
  pub rest : List Placed
  pub split : trial_files symbols ≡ first ++ rest
  pub enough : n ≤ length first
  pub stands : StandsForShelf bytes trial_capacity (with_files [] first)

-- These bytes do so, and they were an empty shelf: but for the first ones of the files, for which there is room, they
-- are as they were.
pub record GotFiles (symbols empty bytes : List ℕ) : Type 0 where
  pub stands : StandsForPart symbols 0 bytes
  pub changes : ChangesFor (way_of trial_capacity []) (trial_files symbols) empty bytes

-- What a trial leaves of the bytes that it found: what an `init` that failed leaves of them, which may be none; or a
-- new shelf that got files, and no byte after them.
abbrev pub IsLeftByTrial : List ℕ → List ℕ → List ℕ → Type 0
IsLeftByTrial symbols old bytes =
    IsLeftByInit trial_capacity old bytes ⊎ GotFiles symbols (new_shelf trial_capacity) bytes

module _ {D : Type 0} (disk : DiskOf D) where
  -- the disk has no bytes, now and after a crash
  pub record IsBare (d : D) : Type 0 where
    pub contents : disk.contents d ≡ []
    pub images : Only [] (disk.may_leave d)

module _ {D : Type 0} (disk : DiskOf D) (symbols : List ℕ) where
  -- the contents are such a shelf, and so is the one crash image
  pub record HoldsTrialPart (n : ℕ) (d : D) : Type 0 where
    pub contents : StandsForPart symbols n (disk.contents d)
    pub images : NothingPending disk d

  -- How the call leaves the disk, for each cause that it may have. At want of memory it is as it was, or it has no
  -- bytes, or a file stands on it. Where the disk tells its contents, there is never no shelf, and all files fit.
  abbrev pub DiskEnds : Cause → D → D → Type 0
  DiskEnds Done d d' =
      (disk.tells d → IsDurable disk trial_capacity
      (with_files [] (trial_files symbols)) d')
      × (disk.faults d' ≡ disk.faults d)
  DiskEnds (Failed Disk) d d' = Unit {0}
  DiskEnds (Failed Output) d d' =
      disk.tells d → IsDurable disk trial_capacity
      (with_files [] (trial_files symbols)) d'
  DiskEnds NoMemory d d' = disk.tells d → (d' ≡ d) ⊎ IsBare disk d' ⊎ HoldsTrialPart 1 d'
  DiskEnds (Refused (NotAShelf at)) d d' = disk.tells d → ⊥
  DiskEnds (Refused (Capacity needed most)) d d' = disk.tells d → ⊥
  DiskEnds (Refused (NotEmpty size)) d d' = IsOnlyRead disk d d'
      × (disk.tells d → (size ≡ length (disk.contents d)) × IsTaken (disk.contents d))
  DiskEnds _ d d' = ⊥

  pub record LeavesDisk (cause : Cause) (d d' : D) : Type 0 where
    pub ends : DiskEnds cause d d'
    -- however it ended, and whatever was pending
    pub leaves : disk.tells d → IsLeftByTrial symbols (disk.contents d) (disk.contents d')
    -- a disk that is taken is refused, exactly then, and nothing is written
    pub taken : disk.tells d → IsTaken (disk.contents d)
        → ((cause ≡ Refused (NotEmpty (length (disk.contents d)))) ⊎ IsEarlier cause)
        × ((d' ≡ d) ⊎ IsUnwritten disk d d')
    -- otherwise a crash at any moment of the call leaves at most 20 bytes, with no header or an empty shelf, or a
    -- shelf with some of the files, and nothing after them
    pub any_moment : disk.tells d → (IsTaken (disk.contents d) → ⊥)
        → NothingPending disk d
        → (d' ≡ d)
        ⊎ EachImageSince disk d d' (λ c. IsBlank trial_capacity c
        ⊎ GotFiles symbols (new_shelf trial_capacity) c)

module _ {O : Type 0} (out : SinkOf O) (symbols : List ℕ) where
  -- what `out` got: the last line of `receive` alone, where the work is done
  abbrev pub OutEnds : Cause → O → O → Type 0
  OutEnds Done o o' = Puts out (receive_last 0 (Symbols TEST_DECODING) symbols End) o o'
  OutEnds (Failed Output) o o' = PutFails out (receive_last 0 (Symbols TEST_DECODING) symbols End) o o'
  OutEnds _ o o' = o' ≡ o

module _ {D O : Type 0} (world : OutletsOf D O) (symbols : List ℕ) where
  pub record TrialRun (cause : Cause) (w w' : Outlets D O) : Type 0 where
    pub on_disk : LeavesDisk world.disk symbols cause w.disk w'.disk
    pub on_out : OutEnds world.out symbols cause w.out w'.out
    pub tell : TellOn world w w'
    -- the first event decides, but a disk that fails as the shelf is taken away is told instead of want of memory
    pub counted : CountsTell SourceBesides cause (outlet_counts world w) (outlet_counts world w')
