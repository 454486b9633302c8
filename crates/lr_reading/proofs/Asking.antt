-- A source that is asked, and asked again.
use Rattle.std.proofs.Common.{◌≡◌, ◌<◌, ◌≤◌, List, [], ◌∷◌, ◌++◌, length, ℕ, Result, Ok, Err, inl, inr}
use Rattle.std.proofs.Common.{⊎_elim, refl, sym, ap, ◌∙◌, subst, arith, append-nil}
use Rattle.std.specs.List.{concat}
use Rattle.std.proofs.lemmas.List.Folds.{concat-append}
use Rattle.lr_bits.specs.declared.refusals.Failed.{Failed}
use Rattle.lr_io.specs.declared.source.Source.{Ghosts as SourceOf}
use Rattle.lr_bits.specs.declared.sizes.TheConstants.{FRAME_SYMBOLS}
use Rattle.lr_reading.specs.Readers.{EndShort}
use Rattle.lr_reading.specs.Reading.{AsksOnce, CameInPieces, HasGiven, HaveGiven, LastCall}
use Rattle.lr_reading.specs.Reading.{StopsAsking, WhenLastAsked}

-- of pieces the last one decides
pub short_last : (pieces : List (List ℕ)) (piece : List ℕ) → EndShort (pieces ++ piece ∷ [])
    → length piece < FRAME_SYMBOLS
short_last [] piece short = short
short_last (one ∷ []) piece short = short
short_last (one ∷ next ∷ pieces) piece short = short_last (next ∷ pieces) piece short

module _ {S : Type 0} (source : SourceOf S) where
  -- a call that gave this
  pub gave : (s s' : S) (answer : Result ℕ Failed) (piece : List ℕ) → source.asked s answer s' → HasGiven answer piece
      → AsksOnce source s piece s'
  gave s s' answer piece asked given = (answer, asked, given)

  -- ---- calls that each gave some bytes

  pub came_none : (s : S) → CameInPieces source [] s s
  came_none s = ([], refl, refl)

  given_on : (first second : List (List ℕ)) (s t u : S) → HaveGiven source first s t → HaveGiven source second t u
      → HaveGiven source (first ++ second) s u
  given_on [] second s t u none later = subst (λ (x : S). HaveGiven source second x u) none later
  given_on (piece ∷ pieces) second s t u given later = (
    given.0,
    given.1,
    (given.2.0, given.2.1, given.2.2, given_on pieces second given.2.0 t u given.2.3 later),
  )

  -- some after others
  pub came_on : (bytes more : List ℕ) (s t u : S) → CameInPieces source bytes s t → CameInPieces source more t u
      → CameInPieces source (bytes ++ more) s u
  came_on bytes more s t u first second = (
    first.0 ++ second.0,
    ap (λ (l : List ℕ). l ++ more) first.1 ∙ ap (λ (l : List ℕ). concat first.0 ++ l) second.1
        ∙ sym (concat-append first.0 second.0),
    given_on first.0 second.0 s t u first.2 second.2,
  )

  -- one call
  given_by : (answer : Result ℕ Failed) (piece : List ℕ) (s s' : S) → source.asked s answer s'
      → HasGiven answer piece → 0 < length piece → length piece ≤ FRAME_SYMBOLS → source.faults s' ≡ source.faults s
      → HaveGiven source (piece ∷ []) s s'
  given_by (Ok count) piece s s' asked given some few kept =
      (some, few, (s', subst (λ (k : ℕ). source.asked s (Ok k) s') (sym given) asked, kept, refl))
  given_by (Err failed) piece s s' asked given some few kept =
      absurd (omega (arith, some, ap (λ (l : List ℕ). length l) given))

  pub came_once : (piece : List ℕ) (s s' : S) → AsksOnce source s piece s' → 0 < length piece
      → length piece ≤ FRAME_SYMBOLS → source.faults s' ≡ source.faults s → CameInPieces source piece s s'
  came_once piece s s' once some few kept =
      (piece ∷ [], sym (append-nil piece), given_by once.0 piece s s' once.1 once.2 some few kept)

  -- one after others, whose piece is the last one
  pub came_last : (bytes piece : List ℕ) (s t u : S) (came : CameInPieces source bytes s t)
      → AsksOnce source t piece u → 0 < length piece → length piece ≤ FRAME_SYMBOLS
      → source.faults u ≡ source.faults t
      → (more : CameInPieces source (bytes ++ piece) s u) × (more.0 ≡ came.0 ++ piece ∷ [])
  came_last bytes piece s t u came once some few kept = (
    (
      came.0 ++ piece ∷ [],
      ap (λ (l : List ℕ). l ++ piece) came.1
          ∙ ap (λ (l : List ℕ). concat came.0 ++ l) (sym (append-nil piece))
          ∙ sym (concat-append came.0 (piece ∷ [])),
      given_on came.0 (piece ∷ []) s t u came.2 (given_by once.0 piece t u once.1 once.2 some few kept),
    ),
    refl,
  )

  -- none of them failed
  all_kept : (pieces : List (List ℕ)) (s s' : S) → HaveGiven source pieces s s' → source.faults s' ≡ source.faults s
  all_kept [] s s' none = ap source.faults none
  all_kept (piece ∷ pieces) s s' given = all_kept pieces given.2.0 s' given.2.3 ∙ given.2.2

  pub none_failed : (bytes : List ℕ) (s s' : S) → CameInPieces source bytes s s' → source.faults s' ≡ source.faults s
  none_failed bytes s s' came = all_kept came.0 s s' came.2

  -- ---- the last call

  -- it was the last call
  pub last_one : (IsSo : List ℕ → List (List ℕ) → Type 0) (bytes piece all : List ℕ) (s t s' : S)
      → (source.tells s → source.left s ≡ bytes ++ source.left t) → (came : CameInPieces source bytes s t)
      → AsksOnce source t piece s' → all ≡ bytes ++ piece → IsSo bytes came.0 → LastCall source IsSo all s s'
  last_one IsSo bytes piece all s t s' moved came once split so = record {
    last = t;
    given = bytes;
    piece = piece;
    split = split;
    asked = once;
    moved = moved;
    before = came;
    so = so;
  }

  -- what was so then makes another thing so
  pub last_too : {IsSo : List ℕ → List (List ℕ) → Type 0} {bytes : List ℕ} {s s' : S}
      (IsToo : List ℕ → List (List ℕ) → Type 0)
      → ((given : List ℕ) (pieces : List (List ℕ)) → IsSo given pieces → IsToo given pieces)
      → LastCall source IsSo bytes s s'
      → LastCall source IsToo bytes s s'
  last_too IsToo too last = record {
    last = last.last;
    given = last.given;
    piece = last.piece;
    split = last.split;
    asked = last.asked;
    moved = last.moved;
    before = last.before;
    so = too last.given last.before.0 last.so;
  }

  pub when_too : (IsSo IsToo : List ℕ → List (List ℕ) → Type 0) (bytes : List ℕ) (s s' : S)
      → ((given : List ℕ) (pieces : List (List ℕ)) → IsSo given pieces → IsToo given pieces)
      → WhenLastAsked source IsSo bytes s s' → WhenLastAsked source IsToo bytes s s'
  when_too IsSo IsToo bytes s s' too when = ⊎_elim (λ same. inl same) (λ last. inr (last_too IsToo too last)) when

  pub stops_asking : (IsSo : List ℕ → List (List ℕ) → Type 0) (bytes : List ℕ) (s s' : S)
      → WhenLastAsked source IsSo bytes s s' → StopsAsking source bytes s s'
  stops_asking IsSo bytes s s' = when_too IsSo (λ given pieces. Unit {0}) bytes s s' (λ given pieces so. tt)
