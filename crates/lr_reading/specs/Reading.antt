-- The bytes that a call read, and why it read no more of them.
use Rattle.std.specs.Prelude.{◌≡◌, ◌⊎◌, ◌<◌, ◌≤◌, ◌*◌, ◌/◌, ℕ, List, [], ◌∷◌, ◌++◌, length, take}
use Rattle.std.specs.Prelude.{drop, map, Result, Ok, Err}
use Rattle.std.specs.List.{concat, range_with_len}
use Rattle.lr_bits.specs.Faults.{Rose}
use Rattle.lr_bits.specs.declared.refusals.Failed.{Failed}
use Rattle.lr_bits.specs.Telling.{KeepsTelling}
use Rattle.lr_bits.specs.declared.sizes.TheConstants.{FRAME_SYMBOLS}
use Rattle.lr_io.specs.declared.source.Source.{Ghosts as SourceOf}
use Rattle.lr_forms.specs.declared.forms.Stop.{Stop}
use Rattle.lr_forms.specs.declared.forms.Stop.TheVariants.{End, Limit, Fault}

-- a call with this answer gave these bytes: as many as it says, and none where it failed
abbrev pub HasGiven : Result ℕ Failed → List ℕ → Type 0
HasGiven (Ok count) piece = length piece ≡ count
HasGiven (Err failed) piece = piece ≡ []

-- what takes the bytes of a source, and the source, at some moment
pub record AtSource (X S : Type 0) : Type 0 where
  pub state : X
  pub source : S

abbrev pub at_source : {X S : Type 0} → X → S → AtSource X S
at_source x s = record { state = x; source = s }

module _ {S : Type 0} (source : SourceOf S) where
  -- the source was asked once, and gave these bytes
  abbrev pub AsksOnce : S → List ℕ → S → Type 0
  AsksOnce s piece s' = (answer : Result ℕ Failed) × source.asked s answer s' × HasGiven answer piece

  -- calls on the source that gave these pieces, one after another: each gave some bytes, at most those of a frame's
  -- symbols, and its count didn't rise
  abbrev pub HaveGiven : List (List ℕ) → S → S → Type 0
  HaveGiven [] s s' = s' ≡ s
  HaveGiven (piece ∷ pieces) s s' = (0 < length piece) × (length piece ≤ FRAME_SYMBOLS)
      × ((t : S) × source.asked s (Ok (length piece)) t × (source.faults t ≡ source.faults s) × HaveGiven pieces t s')

  -- these bytes came by such calls: none failed, and none found the end
  abbrev pub CameInPieces : List ℕ → S → S → Type 0
  CameInPieces bytes s s' = (pieces : List (List ℕ)) × (bytes ≡ concat pieces) × HaveGiven pieces s s'

  -- The last call on the source: some of the bytes had been given before it, in some pieces, and of both this was so;
  -- it gave the others. It follows no call that failed or found the end
  pub record LastCall (IsSo : List ℕ → List (List ℕ) → Type 0) (bytes : List ℕ) (s s' : S) : Type 0 where
    pub last : S
    pub given : List ℕ
    pub piece : List ℕ
    pub split : bytes ≡ given ++ piece
    pub asked : AsksOnce last piece s'
    pub moved : source.tells s → source.left s ≡ given ++ source.left last
    pub before : CameInPieces given s last
    pub so : IsSo given before.0

  -- the source wasn't asked, and gave nothing; or when it was last asked, this was so of the bytes that it had given
  -- and of their pieces
  abbrev pub WhenLastAsked : (List ℕ → List (List ℕ) → Type 0) → List ℕ → S → S → Type 0
  WhenLastAsked IsSo bytes s s' = ((bytes ≡ []) × (s' ≡ s)) ⊎ LastCall IsSo bytes s s'

  -- No call followed one that had failed, or had found the end: each one but the last gave some bytes, and left the
  -- count of failures as it was.
  abbrev pub StopsAsking : List ℕ → S → S → Type 0
  StopsAsking bytes s s' = WhenLastAsked (λ given pieces. Unit {0}) bytes s s'

  -- these bytes were taken, at most this many, up to the first call that gave none
  pub record IsRead (limit : ℕ) (bytes : List ℕ) (s s' : S) : Type 0 where
    pub tell : KeepsTelling (source.tells s) (source.tells s')
    pub moved : source.tells s → source.left s ≡ bytes ++ source.left s'
    pub few : length bytes ≤ limit
    pub asked : StopsAsking bytes s s'

  -- why no more than these bytes were taken: nothing was left, or the limit was reached, or the source failed
  abbrev pub EndsFor : Stop → (limit : ℕ) → (bytes : List ℕ) → S → S → Type 0
  EndsFor End limit bytes s s' = (length bytes < limit) × (source.tells s → source.left s' ≡ [])
      × (source.faults s' ≡ source.faults s)
  EndsFor Limit limit bytes s s' = (length bytes ≡ limit) × (source.faults s' ≡ source.faults s)
  EndsFor Fault limit bytes s s' = (length bytes < limit) × Rose (source.faults s) (source.faults s')

-- one unit of the bytes, each of which is n bytes long
abbrev pub unit_of : ℕ → List ℕ → ℕ → List ℕ
unit_of n bytes place = take n (drop (n * place) bytes)

-- all whole units of the bytes
unfoldable pub units_of : ℕ → List ℕ → List (List ℕ)
units_of n bytes = map (unit_of n bytes) (range_with_len 0 (length bytes / n))
