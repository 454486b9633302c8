-- How far shelving files has come. No clause of a public call cites this.
use Rattle.std.specs.Prelude.{◌≡◌, ◌⊎◌, ◌+◌, ◌-◌, ℕ, false, List, [], ◌∷◌, ◌++◌, length}
use Rattle.lr_bits.specs.declared.outcome.Outcome.{Outcome}
use Rattle.lr_bits.specs.declared.placed.Placed.{Placed}
use Rattle.lr_disk.specs.Pending.{NothingPending}
use Rattle.lr_shelf_format.specs.Way.{Way}
use Rattle.lr_shelf.specs.Kept.{kept_by}
use Rattle.lr_shelf.specs.declared.shelf.Shelf.{Shelf}
use Rattle.lr_causes.specs.declared.cause.Cause.{Cause}
use Rattle.lr_causes.specs.declared.cause.Cause.TheVariants.{Failed, NoMemory, Refused}
use Rattle.lr_causes.specs.declared.cause.Party.TheVariants.{Disk, Output}
use Rattle.lr_causes.specs.declared.cause.Refusal.TheVariants.{NotAShelf, Capacity}
use Rattle.lr_causes.specs.Outside.{Outlets, OutletsOf, TellOn, outlet_counts}
use Rattle.lr_causes.specs.Puts.{GotText, Puts}
use Rattle.lr_causes.specs.Counts.{CountsTell}
use Rattle.lr_cmd_receive.specs.First.{SourceBesides}
use Rattle.lr_cmd_receive.specs.Noted.{NotedFile, noted_of_outcomes, placed_files}
use Rattle.lr_shelf.specs.Adding.{StaysOutside}
use Rattle.lr_shelf.specs.InitialShelves.{InitialShelf, IsSettledOn, LeavesPrefixes}
use Rattle.lr_shelf.specs.Prefixes.{HasRoom, end_with}
use Rattle.lr_cmd_receive.specs.Onto.{ChangesFor, ChangesImagesFor, IsFullWith}
use Rattle.lr_cmd_receive.specs.Shelving.{shelved_lines, AreAcknowledged, Stops, StopsInLines}

-- the causes for which shelving may stop, over any disk
abbrev pub MayStop : Cause → Type 0
MayStop (Failed Disk) = Unit {0}
MayStop (Failed Output) = Unit {0}
MayStop NoMemory = Unit {0}
MayStop (Refused (Capacity needed capacity)) = Unit {0}
MayStop _ = ⊥

-- the causes for which a trial may stop after its shelf was made, and before its last line
abbrev pub StopsTrial : Cause → Type 0
StopsTrial (Failed Disk) = Unit {0}
StopsTrial NoMemory = Unit {0}
StopsTrial (Refused (NotAShelf at)) = Unit {0}
StopsTrial (Refused (Capacity needed capacity)) = Unit {0}
StopsTrial _ = ⊥

-- a shelf in memory, and what the call is lent, at one moment
pub record ShelfIn (W : Type 0) : Type 0 where
  pub shelf : Shelf
  pub lent : W

abbrev pub shelf_in : {W : Type 0} → Shelf → W → ShelfIn W
shelf_in shelf w = record { shelf = shelf; lent = w }

abbrev pub way_in : {W : Type 0} → ShelfIn W → Way
way_in at = (kept_by at.shelf).way

-- outcomes, and the one after them, where an image has at most `mend` fillers
pub record OutcomeMore : Type 0 where
  pub mend : ℕ
  pub earlier : List Outcome
  pub outcome : Outcome

abbrev pub one_more : ℕ → List Outcome → Outcome → OutcomeMore
one_more mend earlier outcome = record { mend = mend; earlier = earlier; outcome = outcome }

-- the last one adds these files
abbrev pub AddsNotedFiles : OutcomeMore → List NotedFile → Type 0
AddsNotedFiles one files = noted_of_outcomes one.mend (one.earlier ++ one.outcome ∷ [])
    ≡ noted_of_outcomes one.mend one.earlier ++ files

-- over every disk: these files were shelved, and the shelf in memory ends after them
pub record Grows {D O : Type 0} (done : List Placed) (old new : ShelfIn (Outlets D O)) : Type 0 where
  pub ends : (way_in new).end ≡ end_with (way_in old).end done
  pub same : (way_in new).capacity ≡ (way_in old).capacity
  pub room : HasRoom (way_in old) done
  pub none : done ≡ [] → (new.lent.disk ≡ old.lent.disk) × (new.lent.out ≡ old.lent.out)

-- over every disk: shelving these files stopped
pub record GrowsNoMore {D O : Type 0} (cause : Cause) (files : List Placed) (old : ShelfIn (Outlets D O))
    (w' : Outlets D O) : Type 0 where
  pub full : (needed most : ℕ) → cause ≡ Refused (Capacity needed most)
      → IsFullWith (way_in old) needed most files
  pub none : files ≡ [] → (cause ≡ NoMemory) × (w'.disk ≡ old.lent.disk) × (w'.out ≡ old.lent.out)

module _ {D O : Type 0} (world : OutletsOf D O) where
  -- these files are shelved on this initial shelf and their lines put; nothing failed
  pub record ShelvesSoFar (initial : InitialShelf) (done : List NotedFile) (w : Outlets D O)
      (now : ShelfIn (Outlets D O)) : Type 0 where
    pub settled : IsSettledOn initial (placed_files done) world.disk now.shelf now.lent.disk
    pub any_moment : LeavesPrefixes world.disk initial (placed_files done) w.disk now.lent.disk
    pub put : Puts world.out (shelved_lines (length initial.way.entries) done) w.out now.lent.out
    pub disk_count : world.disk.faults now.lent.disk ≡ world.disk.faults w.disk

  -- these files were shelved, and their lines put; nothing failed
  pub record HasShelved (files : List NotedFile) (old new : ShelfIn (Outlets D O)) : Type 0 where
    pub tell : TellOn world old.lent new.lent
    pub working : (kept_by old.shelf).failed ≡ false → (kept_by new.shelf).failed ≡ false
    pub disk_count : world.disk.faults new.lent.disk ≡ world.disk.faults old.lent.disk
    pub out_count : world.out.faults new.lent.out ≡ world.out.faults old.lent.out
    -- after others, on any initial shelf
    pub shelved : (initial : InitialShelf) (done : List NotedFile) (before : Outlets D O)
        → ShelvesSoFar initial done before old
        → ShelvesSoFar initial (done ++ files) before new
    -- over every disk
    pub grown : Grows (placed_files files) old new
    pub count : length (way_in new).entries ≡ length (way_in old).entries + length files
    pub put : GotText world.out (shelved_lines (length (way_in old).entries) files) old.lent.out new.lent.out
    pub outside : world.disk.tells old.lent.disk
        → StaysOutside ((way_in old).end - 1) (end_with (way_in old).end (placed_files files))
        (world.disk.contents old.lent.disk) (world.disk.contents new.lent.disk)
    pub moments : world.disk.tells old.lent.disk → NothingPending world.disk old.lent.disk
        → NothingPending world.disk new.lent.disk
        × ((new.lent.disk ≡ old.lent.disk)
        ⊎ ChangesImagesFor world.disk (way_in old) (placed_files files) old.lent.disk new.lent.disk)

  -- they were not all
  pub record StopsShelving (cause : Cause) (files : List NotedFile) (old : ShelfIn (Outlets D O)) (w' : Outlets D O)
      : Type 0 where
    pub kind : MayStop cause
    pub tell : TellOn world old.lent w'
    pub first : (kept_by old.shelf).failed ≡ false
        → CountsTell SourceBesides cause (outlet_counts world old.lent) (outlet_counts world w')
    -- after others, on any initial shelf
    pub stops : (initial : InitialShelf) (done : List NotedFile) (before : Outlets D O)
        → ShelvesSoFar initial done before old
        → Stops world initial (done ++ files) cause before w'
    -- those stay acknowledged
    pub keeps : (initial : InitialShelf) (done : List NotedFile) (before : Outlets D O)
        → ShelvesSoFar initial done before old
        → AreAcknowledged world initial (done ++ files) done before w'
    -- over every disk
    pub grown : GrowsNoMore cause (placed_files files) old w'
    pub lines : StopsInLines world.out cause (length (way_in old).entries) files old.lent.out w'.out
    pub outside : world.disk.tells old.lent.disk
        → ChangesFor (way_in old) (placed_files files) (world.disk.contents old.lent.disk) (world.disk.contents w'.disk)
    pub moments : world.disk.tells old.lent.disk → NothingPending world.disk old.lent.disk
        → (w'.disk ≡ old.lent.disk) ⊎ ChangesImagesFor world.disk (way_in old)
        (placed_files files) old.lent.disk w'.disk

  -- the files that one outcome more adds were shelved
  pub record Gains (one : OutcomeMore) (old new : ShelfIn (Outlets D O)) : Type 0 where
    pub more : List NotedFile
    pub files : AddsNotedFiles one more
    pub shelved : HasShelved more old new

  -- they were not all
  pub record GainsNoMore (cause : Cause) (one : OutcomeMore) (old : ShelfIn (Outlets D O)) (w' : Outlets D O) : Type 0
    where
      pub more : List NotedFile
      pub files : AddsNotedFiles one more
      pub stopped : StopsShelving cause more old w'
