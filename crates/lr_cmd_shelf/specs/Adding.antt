-- Commands that add an item to a shelf: what they decide of its bytes, what is put once the item stands, and what
-- becomes of the disk.
use Rattle.std.specs.Prelude.{◌≡◌, ◌⊎◌, ◌+◌, ◌-◌, ◌<◌, ◌≤◌, ℕ, min, Result, Ok, Err, List, [], ◌∷◌, ◌++◌, take, drop}
use Rattle.lr_bits.specs.Sizes.{most_u64}
use Rattle.lr_disk.specs.declared.disk.Disk.{Ghosts as DiskOf}
use Rattle.lr_disk.specs.Reads.{IsOnlyRead}
use Rattle.lr_disk.specs.Pending.{EachImageSince, NothingPending}
use Rattle.lr_shelf_format.specs.Items.{Item, extent_of, head_of_item, item_bytes}
use Rattle.lr_shelf_format.specs.ShelfBytes.{StandsForShelf}
use Rattle.lr_shelf_format.specs.Way.{Way, IsWay, IsNoShelfAt, way_with}
use Rattle.lr_shelf.specs.Adding.{StaysOutside, WithOrWithout}
use Rattle.lr_shelf.specs.Shelf.{HasEitherWay, IsDurable, StandsForEither}
use Rattle.lr_causes.specs.declared.cause.Party.TheVariants.{Disk, Output}
use Rattle.lr_causes.specs.declared.cause.Refusal.{Refusal}
use Rattle.lr_causes.specs.declared.cause.Refusal.TheVariants.{NotAShelf, Capacity}
use Rattle.lr_causes.specs.declared.cause.Cause.{Cause}
use Rattle.lr_causes.specs.declared.cause.Cause.TheVariants.{Done, Failed, NoMemory, Refused}
use Rattle.lr_causes.specs.Causes.{IsEarlier}
use Rattle.lr_causes.specs.Counts.{CountsTell, NoneBesides}
use Rattle.lr_causes.specs.Outside.{Outlets, OutletsOf, outlet_counts, TellOn}
use Rattle.lr_causes.specs.Puts.{Puts, PutFails}

-- an item that is added, and the text that tells it then
pub record Addition : Type 0 where
  pub item : Item
  pub text : List ℕ

-- the way with the item at its end
abbrev pub way_added : Item → Way → Way
way_added item way = way_with (head_of_item item) way

-- there is room for the item
abbrev pub Fits : Item → Way → Type 0
Fits item way = (way_added item way).end ≤ way.capacity

-- there is none, and the refusal says so
pub record IsFullFor (item : Item) (way : Way) (refusal : Refusal) : Type 0 where
  pub over : way.capacity < (way_added item way).end
  pub is : refusal ≡ Capacity (min (way_added item way).end most_u64) way.capacity

-- ---- what is asked

-- What a command asks that adds an item, the same over all disks.
pub record AdditionQuery : Type 1 where
  -- what it may add, over any disk
  pub makes : Addition → Type 0
  -- what it decides of bytes that have a way: an addition, or a refusal
  pub decides : List ℕ → Way → Result Addition Refusal → Type 0
  -- the refusals that it may have beside those of every such command: that no shelf stands there, that there is no room
  pub may_refuse : Refusal → Type 0

-- ---- what is decided

module _ (query : AdditionQuery) where
  -- the bytes are of a shelf to which this is added
  pub record MayAdd (bytes : List ℕ) (addition : Addition) : Type 0 where
    pub way : Way
    pub is_way : IsWay bytes way
    pub decided : query.decides bytes way (Ok addition)
    pub fits : Fits addition.item way

  -- a refusal over bytes of this way: it is decided, or there is no room for what is
  abbrev pub IsRefusedOnWay : List ℕ → Way → Refusal → Type 0
  IsRefusedOnWay bytes way refusal =
      query.decides bytes way (Err refusal)
      ⊎ ((addition : Addition) × query.decides bytes way (Ok addition) × IsFullFor addition.item way refusal)

  -- a refusal over bytes: no shelf stands there, or it is one of their way
  abbrev pub IsAddingRefused : List ℕ → Refusal → Type 0
  IsAddingRefused bytes refusal =
      ((at : ℕ) × IsNoShelfAt bytes at × (NotAShelf at ≡ refusal))
      ⊎ ((way : Way) × IsWay bytes way × IsRefusedOnWay bytes way refusal)

  -- bytes stand for these items, or for these and the one that is added to `bytes`
  abbrev pub StandsForOneMore : List ℕ → ℕ → List Item → List ℕ → Type 0
  StandsForOneMore bytes capacity items c =
      StandsForShelf c capacity items
      ⊎ ((addition : Addition) × MayAdd bytes addition × StandsForShelf c capacity (items ++ addition.item ∷ []))

  -- they have this way, or that with the item that is added to `bytes`
  abbrev pub HasWayOrOneMore : List ℕ → Way → List ℕ → Type 0
  HasWayOrOneMore bytes way c =
      IsWay c way ⊎ ((addition : Addition) × MayAdd bytes addition × IsWay c (way_added addition.item way))

  -- They are these bytes, or these with one item more: nothing of them changes before the last gate and after the end
  -- with the item that is added, and between the two stands the closed gate, or an open one, the item and a closed
  -- gate.
  abbrev pub AreSameOrOneMore : List ℕ → Way → List ℕ → Type 0
  AreSameOrOneMore bytes way c =
      (c ≡ bytes)
      ⊎ ((addition : Addition) × MayAdd bytes addition
      × StaysOutside (way.end - 1) (way_added addition.item way).end bytes c
      × WithOrWithout (take (way.end - 1) bytes) (item_bytes addition.item) c)

-- ---- causes

-- the causes that it may have, over any disk
abbrev pub MayEndAdding : AdditionQuery → Cause → Type 0
MayEndAdding query Done = Unit {0}
MayEndAdding query (Failed Disk) = Unit {0}
MayEndAdding query (Failed Output) = Unit {0}
MayEndAdding query NoMemory = Unit {0}
MayEndAdding query (Refused (NotAShelf at)) = Unit {0}
MayEndAdding query (Refused (Capacity needed capacity)) = Unit {0}
MayEndAdding query (Refused refusal) = query.may_refuse refusal
MayEndAdding query _ = ⊥

-- a cause that comes only where the item was added
abbrev pub IsAdded : Cause → Type 0
IsAdded Done = Unit {0}
IsAdded (Failed Output) = Unit {0}
IsAdded _ = ⊥

-- ---- a run

module _ {D : Type 0} (disk : DiskOf D) where
  -- Over a disk that has this way, whatever its items hold: it has the item at its end, with nothing pending. The bytes
  -- before the last gate and after the new end stay, and between them stand an open gate, the item and a closed gate.
  pub record EndsWith (item : Item) (way : Way) (d d' : D) : Type 0 where
    pub has : IsWay (disk.contents d') (way_added item way)
    pub outside : StaysOutside (way.end - 1) (way_added item way).end (disk.contents d) (disk.contents d')
    pub stands : take (2 + extent_of (head_of_item item)) (drop (way.end - 1) (disk.contents d'))
        ≡ 1 ∷ (item_bytes item ++ 0 ∷ [])
    pub durable : NothingPending disk d'

  -- or it may have it: the bytes before the last gate and after the new end stay
  pub record MayEndWith (item : Item) (way : Way) (d d' : D) : Type 0 where
    pub has : HasEitherWay way item (disk.contents d')
    pub outside : StaysOutside (way.end - 1) (way_added item way).end (disk.contents d) (disk.contents d')

module _ {D O : Type 0} (world : OutletsOf D O) (query : AdditionQuery) where
  -- the item was added, and its text was put in this manner
  pub record AddsItem (IsPut : List ℕ → O → O → Type 0) (w w' : Outlets D O) : Type 0 where
    pub addition : Addition
    pub made : query.makes addition
    pub decided : world.disk.tells w.disk → MayAdd query (world.disk.contents w.disk) addition
    pub put : IsPut addition.text w.out w'.out
    -- over every disk that has a way, and over a shelf of these items
    pub way : (way : Way) → world.disk.tells w.disk → IsWay (world.disk.contents w.disk) way
        → EndsWith world.disk addition.item way w.disk w'.disk
    pub stands : (capacity : ℕ) (items : List Item) → world.disk.tells w.disk
        → IsDurable world.disk capacity items w.disk
        → IsDurable world.disk capacity (items ++ addition.item ∷ []) w'.disk

  -- the disk failed while the item was added: it is there, or it isn't
  pub record MayHaveAdded (w w' : Outlets D O) : Type 0 where
    pub addition : Addition
    pub made : query.makes addition
    pub decided : world.disk.tells w.disk → MayAdd query (world.disk.contents w.disk) addition
    pub way : (way : Way) → world.disk.tells w.disk → IsWay (world.disk.contents w.disk) way
        → MayEndWith world.disk addition.item way w.disk w'.disk
    pub stands : (capacity : ℕ) (items : List Item) → world.disk.tells w.disk
        → IsDurable world.disk capacity items w.disk
        → StandsForEither capacity items addition.item (world.disk.contents w'.disk)
        × ((c : List ℕ) → world.disk.may_leave w'.disk c → StandsForEither capacity items addition.item c)

  -- nothing was put, and the disk was only read, whatever it tells
  pub record DoesNothing (w w' : Outlets D O) : Type 0 where
    pub silent : w'.out ≡ w.out
    pub only_read : IsOnlyRead world.disk w.disk w'.disk

  -- what stands at the return, for each cause
  abbrev pub LeavesAdding : Cause → Outlets D O → Outlets D O → Type 0
  LeavesAdding Done w w' = AddsItem (Puts world.out) w w'
  LeavesAdding (Failed Output) w w' = AddsItem (PutFails world.out) w w'
  LeavesAdding (Failed Disk) w w' = DoesNothing w w' ⊎ ((w'.out ≡ w.out) × MayHaveAdded w w')
  LeavesAdding NoMemory w w' = DoesNothing w w'
  LeavesAdding (Refused refusal) w w' = DoesNothing w w'
  LeavesAdding _ w w' = ⊥

  pub record RunsAdding (cause : Cause) (w w' : Outlets D O) : Type 0 where
    pub may : MayEndAdding query cause
    -- no party failed but the one that the cause names
    pub counted : CountsTell NoneBesides cause (outlet_counts world w) (outlet_counts world w')
    pub tell : TellOn world w w'
    pub leaves : LeavesAdding cause w w'
    -- a refusal comes exactly where it stands, unless the disk failed or memory was refused; the item is added exactly
    -- where none stands
    pub refused : (refusal : Refusal) → cause ≡ Refused refusal → world.disk.tells w.disk
        → IsAddingRefused query (world.disk.contents w.disk) refusal
    pub refuses : (refusal : Refusal) → world.disk.tells w.disk
        → IsAddingRefused query (world.disk.contents w.disk) refusal
        → (cause ≡ Refused refusal) ⊎ IsEarlier cause
    pub adds : (addition : Addition) → world.disk.tells w.disk
        → MayAdd query (world.disk.contents w.disk) addition → IsAdded cause ⊎ IsEarlier cause
    -- with nothing pending, what a stop at any moment leaves: over every disk that has a way, as ways and as bytes, and
    -- over a shelf of these items
    pub way_any_moment : (way : Way) → world.disk.tells w.disk → IsWay (world.disk.contents w.disk) way
        → NothingPending world.disk w.disk
        → EachImageSince world.disk w.disk w'.disk (HasWayOrOneMore query (world.disk.contents w.disk) way)
    pub bytes_any_moment : (way : Way) → world.disk.tells w.disk → IsWay (world.disk.contents w.disk) way
        → NothingPending world.disk w.disk
        → EachImageSince world.disk w.disk w'.disk (AreSameOrOneMore query (world.disk.contents w.disk) way)
    pub any_moment : (capacity : ℕ) (items : List Item) → world.disk.tells w.disk
        → IsDurable world.disk capacity items w.disk
        → EachImageSince world.disk w.disk w'.disk
        (StandsForOneMore query (world.disk.contents w.disk) capacity items)
