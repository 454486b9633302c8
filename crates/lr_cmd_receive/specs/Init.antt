-- What `init` does to the outside.
use Rattle.std.specs.Prelude.{◌≡◌, ◌⊎◌, ◌++◌, ℕ, List, [], ◌∷◌, length, codes, decimal}
use Rattle.std.specs.List.{concat}
use Rattle.lr_disk.specs.declared.disk.Disk.{Ghosts as DiskOf}
use Rattle.lr_disk.specs.Reads.{IsOnlyRead, IsUnwritten}
use Rattle.lr_disk.specs.Pending.{EachImageSince, NothingPending}
use Rattle.lr_shelf_format.specs.Header.{header_bytes}
use Rattle.lr_shelf.specs.Init.{IsTaken, IsBlank, IsLeftByInit}
use Rattle.lr_shelf.specs.Shelf.{IsDurable}
use Rattle.lr_causes.specs.declared.cause.Cause.{Cause}
use Rattle.lr_causes.specs.declared.cause.Cause.TheVariants.{Done, Failed, NoMemory, Refused}
use Rattle.lr_causes.specs.declared.cause.Party.TheVariants.{Disk, Output}
use Rattle.lr_causes.specs.declared.cause.Refusal.TheVariants.{NotEmpty}
use Rattle.lr_causes.specs.Causes.{IsEarlier}
use Rattle.lr_causes.specs.Outside.{Outlets, OutletsOf, outlet_counts}
use Rattle.lr_causes.specs.Counts.{CountsTell}
use Rattle.lr_causes.specs.Puts.{PutFails, Puts}
use Rattle.lr_cmd_receive.specs.First.{SourceBesides}

-- the line of a shelf that was made
unfoldable pub capacity_line : ℕ → List ℕ
capacity_line capacity = concat (codes "shelf capacity " ∷ decimal capacity ∷ codes "\n" ∷ [])

-- an empty shelf of this capacity: the contents, and the one crash image, are the 19 bytes of a header of version 2
-- and a closed gate, and nothing else
pub record IsNewShelf {D : Type 0} (disk : DiskOf D) (capacity : ℕ) (d : D) : Type 0 where
  pub durable : IsDurable disk capacity [] d
  pub bytes : disk.contents d ≡ header_bytes 2 capacity ++ 0 ∷ []

module _ {D O : Type 0} (world : OutletsOf D O) (capacity : ℕ) where
  -- how the call ends, for each cause that it may have: with an empty shelf of this capacity, on which nothing is
  -- pending, or with the disk as it was, or failed, or only read
  abbrev pub InitEnds : Cause → Outlets D O → Outlets D O → Type 0
  InitEnds Done w w' =
      (world.disk.tells w.disk → IsNewShelf world.disk capacity w'.disk)
      × Puts world.out (capacity_line capacity) w.out w'.out
  InitEnds (Failed Disk) w w' = w'.out ≡ w.out
  InitEnds (Failed Output) w w' =
      (world.disk.tells w.disk → IsNewShelf world.disk capacity w'.disk)
      × PutFails world.out (capacity_line capacity) w.out w'.out
  InitEnds NoMemory w w' = (w'.disk ≡ w.disk) × (w'.out ≡ w.out)
  InitEnds (Refused (NotEmpty size)) w w' =
      (w'.out ≡ w.out) × IsOnlyRead world.disk w.disk w'.disk
      × (world.disk.tells w.disk
      → (size ≡ length (world.disk.contents w.disk)) × IsTaken (world.disk.contents w.disk))
  InitEnds _ w w' = ⊥

  pub record InitRun (cause : Cause) (w w' : Outlets D O) : Type 0 where
    pub ends : InitEnds cause w w'
    -- the first event decides
    pub counted : CountsTell SourceBesides cause (outlet_counts world w) (outlet_counts world w')
    -- a disk that is taken is refused, exactly then, and nothing is written
    pub taken : world.disk.tells w.disk → IsTaken (world.disk.contents w.disk)
        → ((cause ≡ Refused (NotEmpty (length (world.disk.contents w.disk)))) ⊎ IsEarlier cause)
        × ((w'.disk ≡ w.disk) ⊎ IsUnwritten world.disk w.disk w'.disk)
    -- where the disk failed, whatever was pending: the bytes are as they were, or one at most, or a part of a new shelf
    pub left : world.disk.tells w.disk → cause ≡ Failed Disk
        → IsLeftByInit capacity (world.disk.contents w.disk) (world.disk.contents w'.disk)
    -- otherwise a crash at any moment of the call leaves at most 20 bytes, with no header or an empty shelf
    pub any_moment : world.disk.tells w.disk → (IsTaken (world.disk.contents w.disk) → ⊥)
        → NothingPending world.disk w.disk
        → (w'.disk ≡ w.disk)
        ⊎ EachImageSince world.disk w.disk w'.disk (IsBlank capacity)
