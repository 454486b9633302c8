-- How `trial` fills the shelf that it made, and takes it away again. No clause of a public call cites this.
use Rattle.std.specs.Prelude.{◌≡◌, ◌≢◌, ◌⊎◌, ℕ, List, []}
use Rattle.lr_bits.specs.Telling.{KeepsTelling}
use Rattle.lr_disk.specs.declared.disk.Disk.{Ghosts as DiskOf}
use Rattle.lr_disk.specs.Disk.{Cut}
use Rattle.lr_disk.specs.Pending.{EachImageSince}
use Rattle.lr_shelf_format.specs.Items.{Item}
use Rattle.lr_shelf_format.specs.ShelfBytes.{StandsForShelf}
use Rattle.lr_shelf.specs.Init.{IsBlank}
use Rattle.lr_shelf.specs.Shelf.{IsDurable}
use Rattle.lr_causes.specs.declared.cause.Cause.{Cause}
use Rattle.lr_causes.specs.declared.cause.Cause.TheVariants.{NoMemory, Refused}
use Rattle.lr_causes.specs.declared.cause.Refusal.TheVariants.{NotEmpty}
use Rattle.lr_causes.specs.Causes.{counts}
use Rattle.lr_causes.specs.Outside.{Outlets, OutletsOf, outlet_counts}
use Rattle.lr_causes.specs.Counts.{CountsTell}
use Rattle.lr_cmd_receive.specs.First.{SourceBesides}
use Rattle.lr_cmd_receive.specs.Shelved.{StopsTrial}
use Rattle.lr_cmd_receive.specs.Trial.{trial_capacity, GotFiles, IsBare, HoldsTrialPart, DiskEnds}
use Rattle.lr_cmd_receive.specs.Trial.{OutEnds}

module _ {D : Type 0} (disk : DiskOf D) (symbols : List ℕ) where
  -- how it leaves the disk, for each cause that it may have: as the whole call, but at want of memory perhaps no file
  -- stands there
  abbrev pub FillEnds : Cause → D → D → Type 0
  FillEnds NoMemory d d' = disk.tells d → HoldsTrialPart disk symbols 0 d'
  FillEnds (Refused (NotEmpty size)) d d' = ⊥
  FillEnds cause d d' = DiskEnds disk symbols cause d d'

  pub record FillsDisk (cause : Cause) (d d' : D) : Type 0 where
    pub tell : KeepsTelling (disk.tells d) (disk.tells d')
    pub ends : FillEnds cause d d'
    -- the contents at the return
    pub got : disk.tells d → GotFiles symbols (disk.contents d) (disk.contents d')
    -- and what a crash at any moment leaves
    pub any_moment : disk.tells d → EachImageSince disk d d' (GotFiles symbols (disk.contents d))

  -- it stopped before the last line
  pub record StopsFilling (cause : Cause) (d d' : D) : Type 0 where
    pub kind : StopsTrial cause
    pub fills : FillsDisk cause d d'
    pub first : CountsTell SourceBesides cause (counts 0 (disk.faults d) 0) (counts 0 (disk.faults d') 0)

module _ {D O : Type 0} (world : OutletsOf D O) (symbols : List ℕ) where
  -- what filling the shelf does, from the first read of the disk to the last line
  pub record Fills (cause : Cause) (w w' : Outlets D O) : Type 0 where
    pub on_disk : FillsDisk world.disk symbols cause w.disk w'.disk
    pub on_out : OutEnds world.out symbols cause w.out w'.out
    pub by_out : KeepsTelling (world.out.tells w.out) (world.out.tells w'.out)
    pub first : CountsTell SourceBesides cause (outlet_counts world w) (outlet_counts world w')

module _ {D : Type 0} (disk : DiskOf D) (items : List Item) where
  -- a shelf of no items was taken away, and one of some items stayed
  abbrev pub IsWithdrawn : D → Type 0
  IsWithdrawn d = ((items ≡ []) × IsBare disk d)
      ⊎ ((items ≢ []) × IsDurable disk trial_capacity items d)

  -- Each image since the moment of d has at most 20 bytes, with no header or an empty shelf; or it has the first bytes
  -- of d, 20 of them at least, and stands for these items.
  abbrev pub LeavesBlankOrItems : D → D → Type 0
  LeavesBlankOrItems d d' =
      EachImageSince disk d d'
      (λ c. IsBlank trial_capacity c ⊎ (StandsForShelf c trial_capacity items × Cut 20 (disk.contents d) c))
