-- Texts without the zeros and spaces at their end.
use Rattle.std.proofs.Common.{◌≡◌, ◌<◌, ◌≤◌, ◌+◌, ◌-◌, ℕ, true, false, List, [], ◌∷◌, ◌++◌, length, get_or, take, refl}
use Rattle.std.proofs.Common.{◌∙◌, ap, sym, arith}
use Rattle.std.proofs.lemmas.List.{take_more}
use Rattle.lr_catalog.specs.Texts.{is_blank, trimmed_text, trimmed_text_with}

blank_end : (text : List ℕ) (byte : ℕ) → is_blank byte ≡ true → trimmed_text (text ++ byte ∷ []) ≡ trimmed_text text
blank_end [] byte h = rw h refl
blank_end (x ∷ text) byte h = ap (trimmed_text_with x) (blank_end text byte h)

plain_end : (text : List ℕ) (byte : ℕ) → is_blank byte ≡ false → trimmed_text (text ++ byte ∷ []) ≡ text ++ byte ∷ []
plain_end [] byte h = rw h refl
plain_end (x ∷ text) byte h = ap (trimmed_text_with x) (plain_end text byte h) ∙ before x text byte
  where
    before : (first : ℕ) (rest : List ℕ) (last : ℕ)
        → trimmed_text_with first (rest ++ last ∷ []) ≡ first ∷ (rest ++ last ∷ [])
    before first [] last = refl
    before first (next ∷ rest) last = refl

last_of : (text : List ℕ) (end : ℕ) → 0 < end → end ≤ length text
    → take end text ≡ take (end - 1) text ++ get_or text (end - 1) 0 ∷ []
last_of text end some within =
    let before : end - 1 < length text = omega arith in
    let whole : end ≡ end - 1 + 1 = omega arith in
    ap (λ (n : ℕ). take n text) whole ∙ take_more text (end - 1) 0 before

pub blank_ends : (text : List ℕ) (end : ℕ) → 0 < end → end ≤ length text → is_blank (get_or text (end - 1) 0) ≡ true
    → trimmed_text (take end text) ≡ trimmed_text (take (end - 1) text)
blank_ends text end some within blank =
    ap trimmed_text (last_of text end some within) ∙ blank_end (take (end - 1) text) (get_or text (end - 1) 0) blank

pub plain_ends : (text : List ℕ) (end : ℕ) → 0 < end → end ≤ length text
    → is_blank (get_or text (end - 1) 0) ≡ false → trimmed_text (take end text) ≡ take end text
plain_ends text end some within plain =
    ap trimmed_text (last_of text end some within) ∙ plain_end (take (end - 1) text) (get_or text (end - 1) 0) plain
    ∙ sym (last_of text end some within)
