-- Numbered lines, one after another.
use Rattle.std.proofs.Common.{◌≡◌, ℕ, ◌+◌, List, [], ◌∷◌, ◌++◌, length, map, ap, ◌∙◌, sym, refl}
use Rattle.std.proofs.Common.{arith, append_assoc, append-nil}
use Rattle.lr_reading.specs.Lines.{numbered_lines}

module _ {A : Type 0} (line : ℕ → A → List ℕ) where
  pub numbered_lines-none : (number : ℕ) → numbered_lines line number [] ≡ []
  unfolding numbered_lines
  numbered_lines-none number = refl

  pub numbered_lines-cons : (number : ℕ) (item : A) (items : List A)
      → numbered_lines line number (item ∷ items) ≡ line number item ++ numbered_lines line (number + 1) items
  unfolding numbered_lines
  numbered_lines-cons number item items = refl

  pub numbered_lines-append : (number : ℕ) (items more : List A) → numbered_lines line number (items ++ more)
      ≡ numbered_lines line number items ++ numbered_lines line (number + length items) more
  numbered_lines-append number [] more =
      ap (λ (k : ℕ). numbered_lines line k more) (omega arith)
      ∙ ap (λ (l : List ℕ). l ++ numbered_lines line (number + 0) more) (sym (numbered_lines-none number))
  numbered_lines-append number (item ∷ items) more =
      numbered_lines-cons number item (items ++ more)
      ∙ ap (λ (l : List ℕ). line number item ++ l) (numbered_lines-append (number + 1) items more)
      ∙ ap (λ (k : ℕ). line number item ++ (numbered_lines line (number + 1) items ++ numbered_lines line k more))
      (omega arith)
      ∙ sym (append_assoc (line number item) (numbered_lines line (number + 1) items)
      (numbered_lines line (number + length (item ∷ items)) more))
      ∙ ap (λ (l : List ℕ). l ++ numbered_lines line (number + length (item ∷ items)) more)
      (sym (numbered_lines-cons number item items))

  pub numbered_lines-one : (number : ℕ) (item : A) → numbered_lines line number (item ∷ []) ≡ line number item
  unfolding numbered_lines
  numbered_lines-one number item = append-nil (line number item)

  -- one item more, one line more
  pub numbered_lines-push : (number : ℕ) (items : List A) (item : A) → numbered_lines line number (items ++ item ∷ [])
      ≡ numbered_lines line number items ++ line (number + length items) item
  numbered_lines-push number items item =
      numbered_lines-append number items (item ∷ [])
      ∙ ap (λ (l : List ℕ). numbered_lines line number items ++ l) (numbered_lines-one (number + length items) item)

-- lines of items that were made of others
pub numbered_lines-map : {A B : Type 0} (line : ℕ → B → List ℕ) (make : A → B) (number : ℕ) (items : List A)
    → numbered_lines line number (map make items) ≡ numbered_lines (λ k item. line k (make item)) number items
numbered_lines-map {A} {B} line make number [] =
    numbered_lines-none line number ∙ sym (numbered_lines-none (λ k item. line k (make item)) number)
numbered_lines-map {A} {B} line make number (item ∷ items) =
    numbered_lines-cons line number (make item) (map make items)
    ∙ ap (λ (l : List ℕ). line number (make item) ++ l) (numbered_lines-map line make (number + 1) items)
    ∙ sym (numbered_lines-cons (λ k item. line k (make item)) number item items)
