-- Units of the input as they are gathered. No clause of a public call cites this.
use Rattle.std.specs.Prelude.{◌≡◌, ◌⊎◌, ◌<◌, ◌≤◌, ◌+◌, ℕ, List, [], ◌++◌, length, All}
use Rattle.std.specs.List.{concat}
use Rattle.lr_bits.specs.Faults.{Rose}
use Rattle.lr_bits.specs.Telling.{KeepsTelling}
use Rattle.lr_io.specs.declared.source.Source.{Ghosts as SourceOf}
use Rattle.lr_forms.specs.declared.forms.Stop.{Stop}
use Rattle.lr_forms.specs.declared.forms.Stop.TheVariants.{End, Limit, Fault}
use Rattle.lr_reading.specs.declared.next.Next.{Next}
use Rattle.lr_reading.specs.declared.next.Next.TheVariants.{Whole, Ended}
use Rattle.lr_reading.specs.Reading.{CameInPieces, LastCall, AtSource, WhenLastAsked, IsRead, EndsFor}

-- the bytes of the unit so far, how many bytes were taken in all, and the most that may be
pub record UnitState : Type 0 where
  pub held : List ℕ
  pub taken : ℕ
  pub most : ℕ

-- these bytes are the first ones of these units, and then too few for one of n bytes
pub record IsShortOfOne (n : ℕ) (units : List (List ℕ)) (bytes : List ℕ) : Type 0 where
  pub first : List (List ℕ)
  pub others : List (List ℕ)
  pub split : units ≡ first ++ others
  pub begun : List ℕ
  pub short : length begun < n
  pub is : bytes ≡ concat first ++ begun

-- how many bytes a unit has, and how many are taken at most
pub record UnitSizes : Type 0 where
  pub unit : ℕ
  pub limit : ℕ

-- units that were read, how many bytes came after the last one, and why no more did
pub record UnitsEnd : Type 0 where
  pub units : List (List ℕ)
  pub rest : ℕ
  pub stop : Stop

abbrev pub units_end : List (List ℕ) → ℕ → Stop → UnitsEnd
units_end units rest stop = record { units = units; rest = rest; stop = stop }

module _ {S : Type 0} (source : SourceOf S) where
  -- why a unit of n bytes was gathered no further
  abbrev pub GathersFor : ℕ → Next → S → AtSource UnitState S → Type 0
  GathersFor n Whole s now = length now.state.held ≡ n
  GathersFor n (Ended End) s now =
      (length now.state.held < n) × (now.state.taken < now.state.most)
      × (source.tells s → source.left now.source ≡ []) × (source.faults now.source ≡ source.faults s)
  GathersFor n (Ended Limit) s now =
      (length now.state.held < n) × (now.state.taken ≡ now.state.most)
      × (source.faults now.source ≡ source.faults s)
  GathersFor n (Ended Fault) s now =
      (length now.state.held < n) × (now.state.taken < now.state.most)
      × Rose (source.faults s) (source.faults now.source)

  -- a piece of the source stands after what was held; the source was only asked while a unit of n bytes wasn't whole
  pub record Gathers (n : ℕ) (before now : AtSource UnitState S) : Type 0 where
    pub piece : List ℕ
    pub held : now.state.held ≡ before.state.held ++ piece
    pub taken : now.state.taken ≡ before.state.taken + length piece
    pub most : now.state.most ≡ before.state.most
    pub few : now.state.taken ≤ now.state.most
    pub tell : KeepsTelling (source.tells before.source) (source.tells now.source)
    pub moved : source.tells before.source → source.left before.source ≡ piece ++ source.left now.source
    pub in_need : ((piece ≡ []) × (now.source ≡ before.source))
        ⊎ LastCall source (λ given pieces. length (before.state.held ++ given) < n) piece before.source now.source

  -- and each call gave some bytes
  abbrev pub GathersOn : (n : ℕ) → AtSource UnitState S → AtSource UnitState S → Type 0
  GathersOn n before now =
      (all : Gathers n before now) × CameInPieces source all.piece before.source now.source

  -- so it is where the unit is whole
  abbrev pub GathersUpTo : ℕ → Next → AtSource UnitState S → AtSource UnitState S → Type 0
  GathersUpTo n Whole before now = GathersOn n before now
  GathersUpTo n (Ended stop) before now = Gathers n before now

  -- since the source was s these units were read, and then what is held
  pub record ReadsUnits (sizes : UnitSizes) (units : List (List ℕ)) (s : S) (now : AtSource UnitState S) : Type 0 where
    pub whole : All (λ unit. length unit ≡ sizes.unit) units
    pub taken : now.state.taken ≡ length (concat units ++ now.state.held)
    pub most : now.state.most ≡ sizes.limit
    pub few : now.state.taken ≤ sizes.limit
    pub tell : KeepsTelling (source.tells s) (source.tells now.source)
    pub moved : source.tells s → source.left s ≡ (concat units ++ now.state.held) ++ source.left now.source
    pub going_on : CameInPieces source (concat units ++ now.state.held) s now.source
    pub in_need : WhenLastAsked source (λ given pieces. IsShortOfOne sizes.unit units given)
        (concat units ++ now.state.held) s now.source

  -- these units were read, and then a rest that is none
  pub record EndsUnits (sizes : UnitSizes) (ended : UnitsEnd) (s s' : S) : Type 0 where
    pub held : List ℕ
    pub long : length held ≡ ended.rest
    pub short : length held < sizes.unit
    pub whole : All (λ unit. length unit ≡ sizes.unit) ended.units
    pub read : IsRead source sizes.limit (concat ended.units ++ held) s s'
    pub in_need : WhenLastAsked source (λ given pieces. IsShortOfOne sizes.unit ended.units given)
        (concat ended.units ++ held) s s'
    pub reason : EndsFor source ended.stop sizes.limit (concat ended.units ++ held) s s'
