-- What `downlinks` does to the outside.
use Rattle.std.specs.Prelude.{◌≡◌, ◌⊎◌, ◌<◌, ◌+◌, ◌-◌, ℕ, List, [], ◌∷◌, ◌++◌, length, slice_get, Some}
use Rattle.lr_bits.specs.declared.placed.Placed.{Placed}
use Rattle.lr_io.specs.declared.sink.Sink.{Ghosts as SinkOf}
use Rattle.lr_disk.specs.Reads.{IsOnlyRead}
use Rattle.lr_disk.specs.declared.disk.Disk.{Ghosts as DiskOf}
use Rattle.lr_disk.specs.Pending.{EachImageSince, NothingPending}
use Rattle.lr_conv.specs.declared.line.LineCode.{LineCode}
use Rattle.lr_shelf_format.specs.Items.{Item}
use Rattle.lr_shelf_format.specs.Way.{IsNoShelfAt, IsWay, Way}
use Rattle.lr_shelf.specs.Adding.{StaysOutside}
use Rattle.lr_shelf.specs.Append.{item_for}
use Rattle.lr_shelf.specs.Shelf.{HasEitherWay, IsDurable}
use Rattle.lr_forms.specs.declared.forms.Stop.TheVariants.{End, Fault}
use Rattle.lr_causes.specs.Causes.{MayEndBefore}
use Rattle.lr_causes.specs.Counts.{CountsTell}
use Rattle.lr_causes.specs.Outside.{NoFault, Outside, TellOn, World, counts_in, outlets_in, world_outlets}
use Rattle.lr_causes.specs.Puts.{Puts, PutFails}
use Rattle.lr_causes.specs.declared.fault.BundleFlaw.{BundleFlaw}
use Rattle.lr_causes.specs.declared.cause.Cause.{Cause}
use Rattle.lr_causes.specs.declared.cause.Cause.TheVariants.{Done, Failed, NoMemory, Refused}
use Rattle.lr_causes.specs.declared.cause.Party.{Party}
use Rattle.lr_causes.specs.declared.cause.Party.TheVariants.{Source, Disk, Output}
use Rattle.lr_causes.specs.declared.cause.Refusal.TheVariants.{NotAShelf, Capacity, BadBundle}
use Rattle.lr_downlinks.specs.Bundles.{IsBundle}
use Rattle.lr_downlinks.specs.Merge.{IsNextOf, IsOrder, IsWhole}
use Rattle.lr_downlinks.specs.Receipts.{HasFileAt, receipt_at}
use Rattle.lr_downlinks.specs.Room.{AllFit}
use Rattle.lr_downlinks.specs.Runs.{Merging, NextDoesNotFitBy, merged_files, merging}
use Rattle.lr_shelf.specs.Prefixes.{way_with_files}
use Rattle.lr_shelf.specs.InitialShelves.{InitialShelf, HoldsEitherOn, HoldsStill, LeavesPrefixes, initial_shelf}
use Rattle.lr_downlinks.specs.Streams.{files_of_downlink}
use Rattle.lr_cmd_downlinks.specs.Lines.{receipt_lines, last_line}
use Rattle.lr_cmd_downlinks.specs.Taking.{AreAllTaken, HasFlaw, most_taken}
use Rattle.lr_reading.specs.Reading.{IsRead, EndsFor}

-- The first event decides, but for this: after the files were put onto the shelf, `out` may fail in the receipts, and
-- the cause stays.
abbrev pub OutBesides : Cause → Party → Type 0
OutBesides (Failed Disk) Output = Unit {0}
OutBesides NoMemory Output = Unit {0}
OutBesides (Refused (Capacity needed capacity)) Output = Unit {0}
OutBesides cause party = ⊥

-- the causes that come before a bundle is there: the same at any place, and that the source failed
abbrev pub IsBefore : Cause → Type 0
IsBefore (Failed Source) = Unit {0}
IsBefore (Failed Disk) = Unit {0}
IsBefore (Refused (NotAShelf at)) = Unit {0}
IsBefore NoMemory = Unit {0}
IsBefore _ = ⊥

-- ---- the files of all downlinks, merged in an order

module _ {D : Type 0} (disk : DiskOf D) (files : List Placed) (d d' : D) where
  -- what was there and these files stand on the disk, and a stop at any moment leaves a prefix of them
  pub record AddsAllOn (initial : InitialShelf) : Type 0 where
    pub now : HoldsStill initial files disk d'
    pub any_moment : LeavesPrefixes disk initial files d d'

-- these files were added, and the disk failed in the next one
pub record Broken : Type 0 where
  pub files : List Placed
  pub next : Placed

abbrev pub broken_at : List Placed → Placed → Broken
broken_at files next = record { files = files; next = next }

-- that is there, or it isn't
pub record BreaksOn {D : Type 0} (disk : DiskOf D) (broken : Broken) (d d' : D) (initial : InitialShelf) : Type 0 where
  pub now : HoldsEitherOn disk initial broken.files broken.next d'
  pub any_moment : LeavesPrefixes disk initial (broken.files ++ broken.next ∷ []) d d'

module _ {D : Type 0} (disk : DiskOf D) (merged : Merging) (d d' : D) where
  -- the files that the order names were put onto the shelf
  pub record AddsMerged : Type 0 where
    -- over every disk that has a way, whatever its records hold
    pub way : (way : Way) → disk.tells d → IsWay (disk.contents d) way
        → IsWay (disk.contents d') (way_with_files (merged_files merged) way)
        × NothingPending disk d'
    -- the bytes before its last gate and after the new end stay, at every moment
    pub outside : (way : Way) → disk.tells d → IsWay (disk.contents d) way
        → StaysOutside (way.end - 1) (way_with_files (merged_files merged) way).end
        (disk.contents d) (disk.contents d')
    pub outside_any_moment : (way : Way) → disk.tells d → IsWay (disk.contents d) way
        → NothingPending disk d
        → EachImageSince disk d d'
        (StaysOutside (way.end - 1) (way_with_files (merged_files merged) way).end (disk.contents d))
    -- Where nothing is pending, the files stand after the bytes that were there. The bytes of a shelf of items have
    -- such a way, and `FilesComeOntoShelves` says what the files make of it: a shelf of its items and of the files.
    pub onto_way : (way : Way) → disk.tells d → IsWay (disk.contents d) way
        → NothingPending disk d
        → AddsAllOn disk (merged_files merged) d d' (initial_shelf way (disk.contents d))

  -- so they were, and the disk failed in the next file of some downlink: that is there, or it isn't
  pub record BreaksMerging : Type 0 where
    pub downlink : ℕ
    pub placed : Placed
    pub next : IsNextOf merged.count merged.files merged.order downlink placed
    pub way : (way : Way) → disk.tells d → IsWay (disk.contents d) way
        → HasEitherWay (way_with_files (merged_files merged) way) (item_for placed) (disk.contents d')
    pub outside : (way : Way) → disk.tells d → IsWay (disk.contents d) way
        → StaysOutside (way.end - 1) (way_with_files (merged_files merged ++ placed ∷ []) way).end
        (disk.contents d)
        (disk.contents d')
    pub outside_any_moment : (way : Way) → disk.tells d → IsWay (disk.contents d) way
        → NothingPending disk d
        → EachImageSince disk d d'
        (StaysOutside (way.end - 1) (way_with_files (merged_files merged ++ placed ∷ []) way).end
        (disk.contents d))
    -- where nothing is pending; over a shelf of items too, as in `AddsMerged`
    pub onto_way : (way : Way) → disk.tells d → IsWay (disk.contents d) way
        → NothingPending disk d
        → BreaksOn disk (broken_at (merged_files merged) placed) d d' (initial_shelf way (disk.contents d))

  -- what becomes of the disk, for each cause
  abbrev pub LeavesMerged : Cause → Type 0
  LeavesMerged Done = AddsMerged × IsWhole merged.count merged.files merged.order
  LeavesMerged (Failed Output) = AddsMerged × IsWhole merged.count merged.files merged.order
  LeavesMerged (Failed Disk) = BreaksMerging
  LeavesMerged NoMemory = AddsMerged
  LeavesMerged (Refused (Capacity needed capacity)) = AddsMerged
      × ((way : Way) → disk.tells d → IsWay (disk.contents d) way
      → NextDoesNotFitBy merged way needed capacity)
  LeavesMerged _ = ⊥

  -- Over a shelf of these items, each receipt is that of a file of its downlink at its place, which is the entry of
  -- its number in the contents and in every crash image.
  abbrev pub HaveReceipts : ℕ → Type 0
  HaveReceipts base = (at : ℕ) → at < length merged.order → (placed : Placed)
      × (slice_get (merged.files (receipt_at base merged.order at).downlink) (receipt_at base merged.order at).place
      ≡ Some placed)
      × ((capacity : ℕ) (items : List Item) → disk.tells d → IsDurable disk capacity items d
      → HasFileAt capacity (base + at) placed (disk.contents d')
      × ((c : List ℕ) → disk.may_leave d' c → HasFileAt capacity (base + at) placed c))

-- a line for each file, and the last one
pub record MergedLines : Type 0 where
  pub receipts : List ℕ
  pub last : List ℕ

-- What `out` gets, for each cause: all lines, a part of them, or the receipts without the last line, in which it may
-- fail.
abbrev pub GotReceipts : {O : Type 0} → SinkOf O → Cause → MergedLines → O → O → Type 0
GotReceipts out Done lines o o' = Puts out (lines.receipts ++ lines.last) o o'
GotReceipts out (Failed Output) lines o o' = PutFails out (lines.receipts ++ lines.last) o o'
GotReceipts out cause lines o o' = Puts out lines.receipts o o' ⊎ PutFails out lines.receipts o o'

-- the bytes that were taken as a bundle, and the line code of its downlinks
pub record BundleRead : Type 0 where
  pub line : LineCode
  pub bytes : List ℕ

abbrev pub bundle_read : LineCode → List ℕ → BundleRead
bundle_read line bytes = record { line = line; bytes = bytes }

module _ {S D O : Type 0} (world : World S D O) where
  -- the disk was only read, whatever it tells, and `out` is as it was
  pub record LeavesDiskAndOut (w w' : Outside S D O) : Type 0 where
    pub only_read : IsOnlyRead world.disk w.disk w'.disk
    pub out_stays : w'.out ≡ w.out

  -- and the source is as it was
  pub record LeavesAllAlone (w w' : Outside S D O) : Type 0 where
    pub alone : LeavesDiskAndOut w w'
    pub source_stays : w'.source ≡ w.source

  module _ (read : BundleRead) where
    -- The bytes are a bundle, and the files of its downlinks were put onto the shelf in this order. The shelf had
    -- `base` entries before.
    pub record Merges (cause : Cause) (w w' : Outside S D O) : Type 0 where
      pub ended : EndsFor world.source End most_taken read.bytes w.source w'.source
      pub streams : List (List ℕ)
      pub bundle : IsBundle read.bytes streams
      pub order : List ℕ
      pub order_is : IsOrder (length streams) (files_of_downlink read.line streams) order
      pub leaves : LeavesMerged world.disk (merging (length streams) (files_of_downlink read.line streams) order)
          w.disk
          w'.disk cause
      pub base : ℕ
      -- the entries of the way of the bytes, of which there is one at most (`HasOneWay`)
      pub base_is : (way : Way) → world.disk.tells w.disk → IsWay (world.disk.contents w.disk) way
          → base ≡ length way.entries
      pub receipts : HaveReceipts world.disk (merging (length streams) (files_of_downlink read.line streams) order)
          w.disk w'.disk base
      pub got : GotReceipts world.out cause
          (record { receipts = receipt_lines base order (length streams); last = last_line streams order })
          w.out w'.out
      -- where no file was put onto the shelf, and the disk didn't fail, it was only read
      pub only_read : order ≡ [] → (cause ≡ Failed Disk → ⊥) → IsOnlyRead world.disk w.disk w'.disk

    -- how a run ends, for each cause that it may have
    abbrev pub EndsMerging : Cause → Outside S D O → Outside S D O → Type 0
    EndsMerging Done w w' = Merges Done w w'
    EndsMerging (Failed Source) w w' =
        LeavesDiskAndOut w w' × EndsFor world.source Fault most_taken read.bytes w.source w'.source
    EndsMerging (Failed Disk) w w' = LeavesAllAlone w w' ⊎ Merges (Failed Disk) w w'
    EndsMerging (Failed Output) w w' = Merges (Failed Output) w w'
    EndsMerging NoMemory w w' = LeavesDiskAndOut w w' ⊎ Merges NoMemory w w'
    EndsMerging (Refused (NotAShelf at)) w w' =
        LeavesAllAlone w w'
        × (world.disk.tells w.disk → IsNoShelfAt (world.disk.contents w.disk) at)
    EndsMerging (Refused (Capacity needed capacity)) w w' =
        Merges (Refused (Capacity needed capacity)) w w'
    EndsMerging (Refused (BadBundle flaw)) w w' =
        LeavesDiskAndOut w w' × HasFlaw read.bytes flaw × AreAllTaken world.source read.bytes w.source w'.source
    EndsMerging _ w w' = ⊥

-- the whole call, over every disk
pub record DownlinksRun {S D O : Type 0} (world : World S D O) (line : LineCode)
    (cause : Cause) (w w' : Outside S D O) : Type 0 where
  pub counted : CountsTell OutBesides cause (counts_in world w) (counts_in world w')
  pub tell : TellOn (world_outlets world) (outlets_in w) (outlets_in w')
  -- these bytes were taken
  pub bytes : List ℕ
  pub read : IsRead world.source most_taken bytes w.source w'.source
  pub ends : EndsMerging world (bundle_read line bytes) cause w w'
  -- a disk on which no shelf stands is refused, and nothing is touched
  pub broken : (at : ℕ) → world.disk.tells w.disk → IsNoShelfAt (world.disk.contents w.disk) at
      → MayEndBefore at cause × LeavesAllAlone world w w'
  -- bytes that are no bundle are refused for their flaw, unless an event came before
  pub flawed : (flaw : BundleFlaw) → AreAllTaken world.source bytes w.source w'.source
      → HasFlaw bytes flaw
      → (cause ≡ Refused (BadBundle flaw)) ⊎ IsBefore cause
  -- where no count rises, the bytes are a bundle, and all files of its downlinks fit, the work is done or memory was
  -- refused
  pub complete : NoFault world w w' → (streams : List (List ℕ)) → IsBundle bytes streams
      → length bytes < most_taken → (way : Way) → world.disk.tells w.disk
      → IsWay (world.disk.contents w.disk) way
      → AllFit (length streams) (files_of_downlink line streams) way
      → (cause ≡ Done) ⊎ (cause ≡ NoMemory)
