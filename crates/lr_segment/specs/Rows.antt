-- Rows of a segment, written over the pixels of the whole image.
use Rattle.std.specs.Prelude.{◌≡◌, ◌<◌, ◌≤◌, ◌⊎◌, ◌+◌, ◌-◌, ◌*◌, ◌/◌, ◌%◌, ℕ, Bool, true, false, List, length}
use Rattle.std.specs.Prelude.{slice_index, slice_index_or}
use Rattle.lr_segment.specs.declared.rows.Place.{Place}

-- the place k of the whole image lies in the first lines of the segment
pub record IsIn (place : Place) (lines k : ℕ) : Type 0 where
  pub right : place.column ≤ k % place.whole
  pub inside : k % place.whole < place.column + place.width
  pub below : place.line ≤ k / place.whole
  pub above : k / place.whole < place.line + lines

-- or beside them
abbrev pub IsBeside : Place → ℕ → ℕ → Type 0
IsBeside place lines k =
    ((k % place.whole < place.column) ⊎ (place.column + place.width ≤ k % place.whole))
    ⊎ ((k / place.whole < place.line) ⊎ (place.line + lines ≤ k / place.whole))

-- its place in the segment
abbrev pub spot : Place → ℕ → ℕ
spot place k = (k / place.whole - place.line) * place.width + (k % place.whole - place.column)

pub record IsOverwritten (place : Place) (lines : ℕ) (segment old new : List ℕ) : Type 0 where
  pub size : length new ≡ length old
  pub here : (k : ℕ) → k < length old → IsIn place lines k → slice_index new k ≡ slice_index segment (spot place k)
  pub beside : (k : ℕ) → k < length old → IsBeside place lines k → slice_index new k ≡ slice_index old k

pub record IsCovered (place : Place) (lines : ℕ) (old new : List Bool) : Type 0 where
  pub size : length new ≡ length old
  pub here : (k : ℕ) → k < length old → IsIn place lines k → slice_index_or new k false ≡ true
  pub beside : (k : ℕ) → k < length old → IsBeside place lines k
      → slice_index_or new k false ≡ slice_index_or old k false
