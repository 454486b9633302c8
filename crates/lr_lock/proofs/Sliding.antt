-- The 52 symbols after a place, and those after the next one.
use Rattle.std.proofs.Common.{◌≡◌, ℕ, suc, ◌+◌, ◌<◌, Bool, ℤ, pos, List, [], ◌∷◌, ◌++◌, length, take, drop, get_or, sym}
use Rattle.std.proofs.Common.{◌∙◌, ap, arith, length-drop, ◌-◌}
use Rattle.std.proofs.Math.Seq.{drop-cons, take-suc}
use Rattle.std.proofs.lemmas.List.{get_or-drop, length-take-le}
use Rattle.lr_conv.specs.declared.marker.TheConstants.{MARKER_SYMBOLS, TAIL_SYMBOLS}
use Rattle.lr_lock.specs.Hits.{agreeing, hits}
use Rattle.lr_lock.specs.declared.sizes.TheConstants.{TAIL_START}
use Rattle.lr_lock.proofs.Counting.{agreeing-take}

abbrev pub behind : List ℤ → ℕ → List ℤ
behind symbols place = take TAIL_SYMBOLS (drop (place + TAIL_START) symbols)

module _ (symbols : List ℤ) (place : ℕ) (room : place + MARKER_SYMBOLS < length symbols) where
  -- all but the first of them
  abbrev pub rest : List ℤ
  rest = take (TAIL_SYMBOLS - 1) (drop (place + (TAIL_START + 1)) symbols)

  pub rest_size : length (take (TAIL_SYMBOLS - 1) (drop (place + (TAIL_START + 1)) symbols)) ≡ (TAIL_SYMBOLS - 1)
  rest_size = length-take-le (TAIL_SYMBOLS - 1) (drop (place + (TAIL_START + 1)) symbols)
      (omega (arith, length-drop (place + (TAIL_START + 1)) symbols))

  pub first_is : take TAIL_SYMBOLS (drop (place + TAIL_START) symbols) ≡ get_or symbols (place + TAIL_START)
      (pos 0) ∷ take
      (TAIL_SYMBOLS - 1)
      (drop (place + (TAIL_START + 1)) symbols)
  first_is =
      let next : suc (place + TAIL_START) ≡ place + (TAIL_START + 1) = omega arith in
      ap (take TAIL_SYMBOLS) (drop-cons symbols (place + TAIL_START) (pos 0) (omega arith)
      ∙ ap (λ n. get_or symbols (place + TAIL_START) (pos 0) ∷ drop n symbols) next)

  pub last_is : take (TAIL_SYMBOLS - 1) (drop (place + (TAIL_START + 1)) symbols) ++ get_or symbols
      (place + MARKER_SYMBOLS) (pos 0) ∷ [] ≡
      take TAIL_SYMBOLS (drop (place + 1 + TAIL_START) symbols)
  last_is =
      let at : place + 1 + TAIL_START ≡ place + (TAIL_START + 1) = omega arith in
      let more : take TAIL_SYMBOLS (drop (place + (TAIL_START + 1)) symbols) ≡ take (TAIL_SYMBOLS - 1)
      (drop (place + (TAIL_START + 1)) symbols)
      ++ get_or (drop (place + (TAIL_START + 1)) symbols) (TAIL_SYMBOLS - 1) (pos 0) ∷ [] =
      take-suc (drop (place + (TAIL_START + 1)) symbols) (TAIL_SYMBOLS - 1) (pos 0)
      (omega (arith, length-drop (place + (TAIL_START + 1)) symbols)) in
      let value : get_or (drop (place + (TAIL_START + 1)) symbols) (TAIL_SYMBOLS - 1) (pos 0) ≡ get_or symbols
      (place + MARKER_SYMBOLS) (pos 0) =
      get_or-drop (place + (TAIL_START + 1)) symbols (TAIL_SYMBOLS - 1) (pos 0) ∙
      ap (λ n. get_or symbols n (pos 0)) (omega arith) in
      sym (ap (λ n. take TAIL_SYMBOLS (drop n symbols)) at ∙ more ∙
      ap (λ v. take (TAIL_SYMBOLS - 1) (drop (place + (TAIL_START + 1)) symbols) ++ v ∷ []) value)

-- the hits among them are those of the place
pub hits_behind : (tail : List Bool) (symbols : List ℤ) (place : ℕ) (positive : Bool) → length tail ≡ TAIL_SYMBOLS →
    agreeing positive tail (take TAIL_SYMBOLS (drop (place + TAIL_START) symbols)) ≡ hits tail symbols place positive
unfolding hits
hits_behind tail symbols place positive size =
    agreeing-take positive tail (drop (place + TAIL_START) symbols) TAIL_SYMBOLS
    (omega arith)
