-- One level more after a list of levels.
use Rattle.std.proofs.Common.{ap, sym, ◌∙◌, ◌≡◌, ℕ, ◌+◌, ◌*◌, ◌%◌, suc, Bool, List, [], ◌∷◌, ◌++◌, length, drop}
use Rattle.std.proofs.Common.{arith, append_assoc, length-append, add-one}
use Rattle.std.proofs.lemmas.List.{drop-drop, drop-append-le}
use Rattle.lr_conv.specs.Convolution.{bit, code, symbols, first_of_seven, second_of_seven}
use Rattle.lr_conv.specs.Encoder.{past_of}
use Rattle.lr_conv.specs.declared.line.LineCode.{LineCode}
use Rattle.lr_conv.proofs.SevenBits.{symbols-more, first_is, second_is, last_is}

module _ (line : LineCode) (state : ℕ) (past levels : List Bool) (b : Bool) (six : length past ≡ 6)
    (last_six : past_of state ≡ drop (length levels) (past ++ levels)) where
  abbrev t : List Bool
  t = past ++ levels

  abbrev n : ℕ
  n = length levels

  size : length t ≡ n + 6
  size = omega (arith, length-append past levels, six)

  more : length (levels ++ b ∷ []) ≡ suc n
  more = omega (arith, length-append levels (b ∷ []))

  all_levels : past ++ (levels ++ b ∷ []) ≡ t ++ b ∷ []
  all_levels = sym (append_assoc past levels (b ∷ []))

  pub symbols_are : code line past (levels ++ b ∷ []) ≡ code line past levels ++ first_of_seven
      (2 * state + bit b) ∷ second_of_seven line (2 * state + bit b) ∷ []
  symbols_are =
      let whole : code line past (levels ++ b ∷ []) ≡ symbols line (t ++ b ∷ []) (suc n) =
      ap (λ z. symbols line z (length (levels ++ b ∷ []))) all_levels ∙ ap (symbols line (t ++ b ∷ [])) more in
      let old = symbols-more b t line n (omega (arith, size)) in
      let first = first_is b t state n size last_six in
      let second = second_is b t state n size last_six line in
      cc

  pub last_six_are : past_of ((2 * state + bit b) % 64) ≡ drop (length (levels ++ b ∷ [])) (past ++ (levels ++ b ∷ []))
  last_six_are =
      let whole : drop (length (levels ++ b ∷ [])) (past ++ (levels ++ b ∷ [])) ≡ drop (n + 1) (t ++ b ∷ []) =
      ap (λ z. drop (length (levels ++ b ∷ [])) z) all_levels
      ∙ ap (λ k. drop k (t ++ b ∷ [])) (more ∙ sym (add-one n)) in
      let apart : drop (n + 1) (t ++ b ∷ []) ≡ drop 1 (drop n (t ++ b ∷ [])) = sym (drop-drop 1 n (t ++ b ∷ [])) in
      let front : drop n (t ++ b ∷ []) ≡ drop n t ++ b ∷ [] = drop-append-le n t (b ∷ []) (omega (arith, size)) in
      last_is b t state n size last_six ∙ ap (λ z. drop 1 (z ++ b ∷ [])) last_six ∙ sym (ap (drop 1) front)
      ∙ sym apart ∙ sym whole
