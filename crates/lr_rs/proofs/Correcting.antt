-- A word corrected at the roots, and what it is where a codeword lies within sixteen places.
use Rattle.std.proofs.Common.{◌≡◌, ◌≢◌, ℕ, ◌+◌, ◌<◌, List, length, get_or, slice_index, slice_set, sym, ap, ◌∙◌}
use Rattle.std.proofs.Common.{arith, inl, inr}
use Rattle.std.specs.Int.Bits.{bit_xor, xor_self, xor_assoc}
use Rattle.std.proofs.lemmas.Bool.{cases_eq}
use Rattle.std.proofs.lemmas.List.{get_or-set_same, get_or-set_other}
use Rattle.std.proofs.Math.ListN.{length-set}
use Rattle.lr_gf.specs.Dual.{conventional_of}
use Rattle.lr_gf.specs.Field.{value_of}
use Rattle.lr_rs.specs.Words.{locator, IsWord}
use Rattle.lr_rs.specs.RootLists.{IsRootList}
use Rattle.lr_rs.proofs.Unique.{difference, same_words}
use Rattle.lr_rs.specs.declared.sizes.TheConstants.{WORD_BYTES}

pub correct_more : (old now ps ys : List ℕ) (count l v : ℕ) → length now ≡ WORD_BYTES → l < count → get_or ps l 0 < 255
    → ((i j : ℕ) → i < count → j < count → get_or ps i 0 ≡ get_or ps j 0 → i ≡ j)
    → conventional_of v ≡ bit_xor (conventional_of (get_or now (get_or ps l 0) 0)) (get_or ys l 0)
    → ((j : ℕ) → j < l → conventional_of (get_or now (get_or ps j 0) 0)
    ≡ bit_xor (conventional_of (get_or old (get_or ps j 0) 0)) (get_or ys j 0))
    → ((p : ℕ) → ((j : ℕ) → j < l → get_or ps j 0 ≢ p) → get_or now p 0 ≡ get_or old p 0)
    → ((j : ℕ) → j < l + 1 → conventional_of (get_or (slice_set now (get_or ps l 0) v) (get_or ps j 0) 0)
    ≡ bit_xor (conventional_of (get_or old (get_or ps j 0) 0)) (get_or ys j 0))
    × ((p : ℕ) → ((j : ℕ) → j < l + 1 → get_or ps j 0 ≢ p) → get_or (slice_set now (get_or ps l 0) v) p 0
    ≡ get_or old p 0)
    × (length (slice_set now (get_or ps l 0) v) ≡ WORD_BYTES)
correct_more old now ps ys count l v long hl room different hv done rest =
    let apart : (j : ℕ) → j < l → get_or ps j 0 ≢ get_or ps l 0 =
    λ j h e. absurd (omega (arith, different j l (omega arith) hl e)) in (
      λ j h. elim (cases_eq j l) [
        | inl e ↦
            ap (λ z. conventional_of (get_or (slice_set now (get_or ps l 0) v) (get_or ps z 0) 0)) e
            ∙ ap conventional_of (get_or-set_same now (get_or ps l 0) v 0 (omega arith)) ∙ hv
            ∙ ap (λ z. bit_xor (conventional_of z) (get_or ys l 0)) (rest (get_or ps l 0) apart)
            ∙ ap (λ z. bit_xor (conventional_of (get_or old (get_or ps z 0) 0)) (get_or ys z 0)) (sym e)
        | inr ne ↦
            ap conventional_of (get_or-set_other now (get_or ps l 0) (get_or ps j 0) v 0
            (apart j (omega (arith, ne)))) ∙ done j (omega (arith, ne))
      ],
      λ p h. get_or-set_other now (get_or ps l 0) p v 0 (λ e. h l (omega arith) (sym e))
          ∙ rest p (λ j k. h j (omega arith)),
      length-set now (get_or ps l 0) v ∙ long,
    )

-- where the values are the error values, the corrected word is the codeword
pub corrected_is : (w fixed c cs ps : List ℕ) (count : ℕ) (y : ℕ → ℕ) → IsWord fixed → IsWord c
    → IsRootList cs WORD_BYTES count ps
    → ((p : ℕ) → p < WORD_BYTES → value_of cs (locator p) ≢ 0 → difference w c p ≡ 0)
    → ((l : ℕ) → l < count → y l ≡ difference w c (get_or ps l 0))
    → ((l : ℕ) → l < count → conventional_of (get_or fixed (get_or ps l 0) 0)
    ≡ bit_xor (conventional_of (get_or w (get_or ps l 0) 0)) (y l))
    → ((p : ℕ) → ((l : ℕ) → l < count → get_or ps l 0 ≢ p) → get_or fixed p 0 ≡ get_or w p 0) → fixed ≡ c
corrected_is w fixed c cs ps count y hf hc r none right changed kept =
    same_words fixed c hf hc (λ p h.
    elim (cases_eq (value_of cs (locator p)) 0) [
      | inl z ↦
          let t = r.covers p h z in
          ap (difference fixed c) (sym t.2)
          ∙ ap (λ v. bit_xor v (conventional_of (get_or c (get_or ps t.0 0) 0))) (changed t.0 t.1
          ∙ ap (bit_xor (conventional_of (get_or w (get_or ps t.0 0) 0))) (right t.0 t.1))
          ∙ twice (conventional_of (get_or w (get_or ps t.0 0) 0)) (conventional_of (get_or c (get_or ps t.0 0) 0))
      | inr ne ↦
          ap (λ v. bit_xor (conventional_of v) (conventional_of (slice_index c p)))
          (kept p (λ l k e. ne (ap (λ q. value_of cs (locator q)) (sym e) ∙ r.roots l k)))
          ∙ none p h ne
    ])
  where
    twice : (a b : ℕ) → bit_xor (bit_xor a (bit_xor a b)) b ≡ 0
    twice a b = ap (λ z. bit_xor z b) (sym (xor_assoc a a b) ∙ ap (λ z. bit_xor z b) (xor_self a)) ∙ xor_self b
