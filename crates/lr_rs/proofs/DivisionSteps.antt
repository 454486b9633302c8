-- The remainder of bytes that are taken in one by one.
use Rattle.std.proofs.Common.{◌≡◌, ◌<◌, ℕ, ◌∙◌, refl, sym, ap, subst, arith, replicate, [], ◌∷◌, ◌++◌, List, length}
use Rattle.std.proofs.Common.{bit_xor, map}
use Rattle.std.proofs.lemmas.List.{map-append}
use Rattle.lr_gf.specs.Field.{value_of, times}
use Rattle.lr_gf.specs.Dual.{conventional_of}
use Rattle.lr_gf.proofs.DualLaws.{conventional-lt}
use Rattle.lr_gf.proofs.Powers.{value-push}
use Rattle.lr_gf.proofs.Reduction.{zero_row}
use Rattle.lr_gf.proofs.Values.{value-zeros}
use Rattle.lr_rs.specs.Words.{word_value}
use Rattle.lr_rs.specs.Division.{IsDivisionStep, IsWordRemainder, IsRemainderOf}
use Rattle.lr_rs.proofs.KeyEquation.{value_of_word}
use Rattle.lr_rs.proofs.Remainders.{root_at, root_at-is, value-step, elements-step}
use Rattle.lr_rs.specs.declared.sizes.TheConstants.{WORD_BYTES}

no_bytes : (x : ℕ) → value_of [] x ≡ 0
unfolding value_of
no_bytes x = refl

pub of_no_bytes : IsRemainderOf [] (replicate 32 0)
of_no_bytes = record {
  long = refl;
  same = λ j h.
      ap (value_of (replicate 32 0)) (sym (root_at-is j))
      ∙ value-zeros (replicate 32 0) 32 (root_at j) refl (λ k l. zero_row 32 k)
      ∙ sym (no_bytes (root_at j)) ∙ ap (value_of []) (root_at-is j);
  elements = λ k. subst (λ (n : ℕ). n < 256) (sym (zero_row 32 k)) (omega arith);
}

-- the value of the bytes with one more
value_more : (bytes : List ℕ) (byte x : ℕ) → value_of (map conventional_of (bytes ++ byte ∷ [])) x ≡
    bit_xor (times (value_of (map conventional_of bytes) x) x) (conventional_of byte)
value_more bytes byte x =
    ap (λ l. value_of l x) (map-append conventional_of bytes (byte ∷ []))
    ∙ value-push (map conventional_of bytes) (conventional_of byte) x (conventional-lt byte)

pub of_one_more : (bytes old new : List ℕ) (byte d : ℕ) → d ≡ conventional_of byte → IsRemainderOf bytes old
    → IsDivisionStep d old new → IsRemainderOf (bytes ++ byte ∷ []) new
of_one_more bytes old new byte d e r s =
    let small : d < 256 = subst (λ (n : ℕ). n < 256) (sym e) (conventional-lt byte) in
    record {
      long = s.long;
      same = λ j h.
          ap (value_of new) (sym (root_at-is j))
          ∙ value-step old new d j r.long small h s
          ∙ ap (λ z. bit_xor (times z (root_at j)) d)
          (ap (value_of old) (root_at-is j) ∙ r.same j h ∙
          ap (value_of (map conventional_of bytes)) (sym (root_at-is j)))
          ∙ ap (bit_xor (times (value_of (map conventional_of bytes) (root_at j)) (root_at j))) e
          ∙ sym (value_more bytes byte (root_at j))
          ∙ ap (value_of (map conventional_of (bytes ++ byte ∷ []))) (root_at-is j);
      elements = elements-step old new d small r.elements s;
    }

pub of_word : (word rest : List ℕ) → length word ≡ WORD_BYTES → IsRemainderOf word rest → IsWordRemainder word rest
of_word word rest long r = record {
  long = r.long;
  same = λ j h.
      r.same j h ∙ ap (value_of (map conventional_of word)) (sym (root_at-is j))
      ∙ value_of_word word (root_at j) long ∙ ap (word_value word) (root_at-is j);
  elements = r.elements;
}
