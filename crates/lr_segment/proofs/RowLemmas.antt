-- Rows of a segment in the whole image.
use Rattle.std.proofs.Common.{◌≡◌, ◌⊎◌, inl, inr, ◌<◌, ◌≤◌, ◌+◌, ◌-◌, ◌*◌, ◌/◌, ◌%◌, ℕ, Bool, true, false, List}
use Rattle.std.proofs.Common.{length, get_or, take, drop, ap, ◌∙◌, arith, length-drop}
use Rattle.std.proofs.Math.Nat.{mul-le-mul_left, mul-le-mul_right}
use Rattle.std.proofs.lemmas.Bool.{cases_lt}
use Rattle.std.proofs.lemmas.List.{get_or-drop, get_or-take, length-take-le}
use Rattle.std.proofs.lemmas.Nat.{mod_below}
use Rattle.lr_segment.specs.declared.rows.Place.{Place}
use Rattle.lr_segment.specs.Rows.{IsBeside, IsCovered, IsIn, IsOverwritten, spot}

-- where a row of the segment begins in the whole image
abbrev pub row_start : Place → ℕ → ℕ
row_start place n = (place.line + n) * place.whole + place.column

-- how a place, in the line q and the column r, lies to a row of the line n
pub record Lies (n q r whole column width k : ℕ) : Type 0 where
  pub before : q < n → k < n * whole + column
  pub same : q ≡ n → k ≡ n * whole + r
  pub after : n < q → n * whole + column + width ≤ k

lies : (n q r whole column width k : ℕ) → whole * q + r ≡ k → r < whole → column + width ≤ whole
    → Lies n q r whole column width k
lies n q r whole column width k is short fits =
    record {
      before = λ h. let step : (q + 1) * whole ≤ n * whole = mul-le-mul_right whole (omega arith) in omega arith;
      same = λ h. let step : whole * q ≡ whole * n = ap (λ m. whole * m) h in omega arith;
      after = λ h. let step : (n + 1) * whole ≤ q * whole = mul-le-mul_right whole (omega arith) in omega arith;
    }

pub lies_at : (place : Place) (n k : ℕ) → 1 ≤ place.whole → place.column + place.width ≤ place.whole
    → Lies (place.line + n) (k / place.whole) (k % place.whole) place.whole place.column place.width k
lies_at place n k some fits =
    lies (place.line + n) (k / place.whole) (k % place.whole) place.whole place.column place.width k
    (omega arith) (mod_below k place.whole some) fits

-- a row was written over pixels, or over the notes of which are covered
pub record Written {X : Type 0} (to size : ℕ) (d : X) (row : ℕ → X) (old new : List X) : Type 0 where
  pub here : (k : ℕ) → to ≤ k → k < to + size → get_or new k d ≡ row (k - to)
  pub before : (k : ℕ) → k < to → get_or new k d ≡ get_or old k d
  pub after : (k : ℕ) → to + size ≤ k → get_or new k d ≡ get_or old k d

-- what such a row leaves: in its own columns the row, in the lines before it and beside it what was there
row_here : {X : Type 0} (place : Place) (n k : ℕ) (d : X) (row : ℕ → X) (old new : List X) → 1 ≤ place.whole
    → place.column + place.width ≤ place.whole
    → Written (row_start place n) place.width d row old new → place.column ≤ k % place.whole
    → k % place.whole < place.column + place.width → k / place.whole ≡ place.line + n
    → get_or new k d ≡ row (k % place.whole - place.column)
row_here place n k d row old new some fits written right inside same =
    let at = (lies_at place n k some fits).same same in
    let offset : k - row_start place n ≡ k % place.whole - place.column = omega arith in
    written.here k (omega arith) (omega arith) ∙ ap row offset

row_kept : {X : Type 0} (place : Place) (n k : ℕ) (d : X) (row : ℕ → X) (old new : List X) → 1 ≤ place.whole
    → place.column + place.width ≤ place.whole
    → Written (row_start place n) place.width d row old new
    → ((k / place.whole < place.line + n) ⊎ (place.line + n < k / place.whole))
    ⊎ ((k % place.whole < place.column) ⊎ (place.column + place.width ≤ k % place.whole))
    → get_or new k d ≡ get_or old k d
row_kept place n k d row old new some fits written (inl (inl before)) =
    written.before k ((lies_at place n k some fits).before before)
row_kept place n k d row old new some fits written (inl (inr after)) =
    written.after k ((lies_at place n k some fits).after after)
row_kept place n k d row old new some fits written (inr beside) =
    elim (cases_lt (k / place.whole) (place.line + n)) [
      | inl before ↦ written.before k ((lies_at place n k some fits).before before)
      | inr least ↦ elim (cases_lt (place.line + n) (k / place.whole)) [
        | inl after ↦ written.after k ((lies_at place n k some fits).after after)
        | inr most ↦
            let at = (lies_at place n k some fits).same (omega arith) in
            elim beside [
              | inl left ↦ written.before k (omega arith)
              | inr right ↦ written.after k (omega arith)
            ]
      ]
    ]

fewer_beside : (place : Place) (n k : ℕ) → IsBeside place (n + 1) k → IsBeside place n k
fewer_beside place n k (inl beside) = inl beside
fewer_beside place n k (inr (inl before)) = inr (inl before)
fewer_beside place n k (inr (inr after)) = inr (inr (omega arith))

not_in_row : (place : Place) (n k : ℕ) → IsBeside place (n + 1) k
    → ((k / place.whole < place.line + n) ⊎ (place.line + n < k / place.whole))
    ⊎ ((k % place.whole < place.column) ⊎ (place.column + place.width ≤ k % place.whole))
not_in_row place n k (inl beside) = inr beside
not_in_row place n k (inr (inl before)) = inl (inl (omega arith))
not_in_row place n k (inr (inr after)) = inl (inr (omega arith))

-- one row more, of what each place of the segment has
more_here : {X : Type 0} (place : Place) (n k : ℕ) (d : X) (given : ℕ → X) (now new : List X) → 1 ≤ place.whole
    → place.column + place.width ≤ place.whole
    → Written (row_start place n) place.width d (λ j. given (n * place.width + j)) now new
    → (IsIn place n k → get_or now k d ≡ given (spot place k)) → IsIn place (n + 1) k
    → get_or new k d ≡ given (spot place k)
more_here place n k d given now new some fits written earlier is =
    let below = is.below in
    let above = is.above in
    let right = is.right in
    let inside = is.inside in
    elim (cases_lt (k / place.whole) (place.line + n)) [
      | inl before ↦ row_kept place n k d (λ j. given (n * place.width + j)) now new some fits written
          (inl (inl before))
          ∙ earlier (record { right = right; inside = inside; below = below; above = before })
      | inr least ↦
          let same : k / place.whole ≡ place.line + n = omega arith in
          let lines : (k / place.whole - place.line) * place.width ≡ n * place.width = ap (λ m. m * place.width)
          (omega arith) in
          row_here place n k d (λ j. given (n * place.width + j)) now new some fits written right inside same
          ∙ ap given (omega arith)
    ]

pub overwritten_more : (place : Place) (n : ℕ) (segment old now new : List ℕ) → 1 ≤ place.whole
    → place.column + place.width ≤ place.whole → IsOverwritten place n segment old now → length new ≡ length now
    → Written (row_start place n) place.width 0 (λ j. get_or segment (n * place.width + j) 0) now new
    → IsOverwritten place (n + 1) segment old new
overwritten_more place n segment old now new some fits is size written = record {
  size = size ∙ is.size;
  here = λ k inside at. more_here place n k 0 (λ j. get_or segment j 0) now new some fits written (is.here k inside) at;
  beside = λ k inside at. row_kept place n k 0
      (λ j. get_or segment (n * place.width + j) 0) now new some fits written (not_in_row place n k at)
      ∙ is.beside k inside (fewer_beside place n k at);
}

pub covered_more : (place : Place) (n : ℕ) (old now new : List Bool) → 1 ≤ place.whole
    → place.column + place.width ≤ place.whole → IsCovered place n old now → length new ≡ length now
    → Written (row_start place n) place.width false (λ j. true) now new → IsCovered place (n + 1) old new
covered_more place n old now new some fits is size written = record {
  size = size ∙ is.size;
  here = λ k inside at. more_here place n k false (λ j. true) now new some fits written (is.here k inside) at;
  beside = λ k inside at. row_kept place n k false (λ j. true) now new some fits written
      (not_in_row place n k at) ∙ is.beside k inside (fewer_beside place n k at);
}

-- the rows have room
pub segment_room : (n lines width size : ℕ) → n < lines → size ≡ width * lines → n * width + width ≤ size
segment_room n lines width size before is =
    let step : width * (n + 1) ≤ width * lines = mul-le-mul_left width (omega arith) in
    omega arith

-- what `put_row` leaves, as a row of the segment
pub pixel_row : (from width to : ℕ) (segment now new : List ℕ) → from + width ≤ length segment
    → ((k : ℕ) → to ≤ k → k < to + length (take (from + width - from) (drop from segment))
    → get_or new k 0 ≡ get_or (take (from + width - from) (drop from segment)) (k - to) 0)
    → ((k : ℕ) → k < to → get_or new k 0 ≡ get_or now k 0)
    → ((k : ℕ) → to + length (take (from + width - from) (drop from segment)) ≤ k → get_or new k 0 ≡ get_or now k 0)
    → Written to width 0 (λ j. get_or segment (from + j) 0) now new
pixel_row from width to segment now new room row before after =
    let part = take (from + width - from) (drop from segment) in
    let size : length part ≡ width = length-take-le (from + width - from) (drop from segment)
    (omega (arith, length-drop from segment)) ∙ omega arith in
    record {
      here = λ k low high.
          row k low (omega arith) ∙ get_or-take (from + width - from) (drop from segment) (k - to) 0
          (omega arith) ∙ get_or-drop from segment (k - to) 0
          ∙ ap (λ (m : ℕ). get_or segment m 0) (omega arith);
      before = before;
      after = λ k high. after k (omega arith);
    }
