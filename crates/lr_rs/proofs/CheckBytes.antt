-- The check bytes make a codeword of the information, and only they do.
use Rattle.std.proofs.Common.{◌≡◌, ◌≢◌, ℕ, ◌+◌, ◌-◌, ◌<◌, ◌≤◌, List, length, get_or, slice_index, slice_set, take}
use Rattle.std.proofs.Common.{refl, sym, ap, ◌∙◌, subst, arith, inl, inr}
use Rattle.std.proofs.lemmas.Bool.{cases_eq, cases_lt}
use Rattle.std.specs.Int.Bits.{bit_xor, xor_assoc, xor_self, xor_zero_r}
use Rattle.std.proofs.lemmas.List.{get_or-take, get_or-set_same, get_or-set_other, same_lists, get_or_default}
use Rattle.std.proofs.Math.ListN.{length-set}
use Rattle.std.proofs.lemmas.List.{length-take}
use Rattle.lr_gf.specs.Sums.{sum_of}
use Rattle.lr_gf.specs.Field.{times, power, value_of}
use Rattle.lr_gf.specs.Dual.{rows_sum, conventional_of}
use Rattle.lr_gf.proofs.Laws.{times-add-left, times-zero-left}
use Rattle.lr_gf.proofs.SumLaws.{sum_of-same, sum_of-add, sum_of-skip, weight-skip}
use Rattle.lr_gf.proofs.Values.{value_as_sum}
use Rattle.lr_rs.specs.declared.sizes.TheConstants.{CHECK_BYTES, INFORMATION_BYTES, WORD_BYTES}
use Rattle.lr_rs.specs.Words.{word_value, IsWord, IsCodeword}
use Rattle.lr_rs.specs.Division.{IsWordRemainder}
use Rattle.lr_rs.proofs.Unique.{difference, same_codewords}
use Rattle.lr_rs.proofs.Remainders.{root_at, root_at-is, codeword_from_values}

conventional-zero : conventional_of 0 ≡ 0
unfolding conventional_of rows_sum sum_of
conventional-zero = refl

-- what is added to the information and its zeros
pub record AddsCheck (plain word added : List ℕ) : Type 0 where
  pub kept : (i : ℕ) → i < INFORMATION_BYTES → slice_index word i ≡ slice_index plain i
  pub zeros : (i : ℕ) → INFORMATION_BYTES ≤ i → slice_index plain i ≡ 0
  pub check : (k : ℕ) → k < CHECK_BYTES → conventional_of
      (slice_index word (INFORMATION_BYTES + k)) ≡ slice_index added k

-- the two words' values differ by that of the check polynomial
value_of_check : (plain word check : List ℕ) (x : ℕ) → length check ≡ CHECK_BYTES → AddsCheck plain word check
    → bit_xor (word_value word x) (word_value plain x) ≡ value_of check x
unfolding word_value
value_of_check plain word check x h a =
    sym (sum_of-add WORD_BYTES (λ i. times (conventional_of (slice_index word i)) (power x (254 - i)))
    (λ i. times (conventional_of (slice_index plain i)) (power x (254 - i))))
    ∙ sum_of-same WORD_BYTES (λ i. bit_xor (times (conventional_of (slice_index word i)) (power x (254 - i)))
    (times (conventional_of (slice_index plain i)) (power x (254 - i))))
    (λ i. times (difference word plain i) (power x (254 - i)))
    (λ i l. sym (times-add-left (conventional_of (slice_index word i)) (conventional_of (slice_index plain i))
    (power x (254 - i))))
    ∙ sum_of-skip INFORMATION_BYTES 32 (λ i. times (difference word plain i) (power x (254 - i)))
    (λ i l. ap (λ z. times z (power x (254 - i)))
    (ap (λ z. bit_xor (conventional_of z) (conventional_of (slice_index plain i))) (a.kept i l)
    ∙ xor_self (conventional_of (slice_index plain i)))
    ∙ times-zero-left (power x (254 - i)))
    ∙ sum_of-same CHECK_BYTES (λ k. times (difference word plain (INFORMATION_BYTES + k))
    (power x (254 - (INFORMATION_BYTES + k))))
    (λ k. times (get_or check k 0) (power x (31 - k)))
    (λ k l.
    let exponent : 254 - (INFORMATION_BYTES + k) ≡ 31 - k = omega arith in
    ap (λ z. times z (power x (254 - (INFORMATION_BYTES + k))))
    (ap (λ z. bit_xor (conventional_of (slice_index word (INFORMATION_BYTES + k))) (conventional_of z))
    (a.zeros (INFORMATION_BYTES + k) (omega arith))
    ∙ ap (bit_xor (conventional_of (slice_index word (INFORMATION_BYTES + k)))) conventional-zero
    ∙ xor_zero_r (conventional_of (slice_index word (INFORMATION_BYTES + k))) ∙ a.check k l)
    ∙ ap (λ n. times (get_or check k 0) (power x n)) exponent)
    ∙ sym (value_as_sum check 32 x h)

-- a + b = b only at a = 0
only_zero : (a b : ℕ) → bit_xor a b ≡ b → a ≡ 0
only_zero a b e =
    sym (xor_zero_r a) ∙ ap (bit_xor a) (sym (xor_self b)) ∙ sym (xor_assoc a b b) ∙ ap (λ z. bit_xor z b) e
    ∙ xor_self b

pub encoded_is_codeword : (plain word check : List ℕ) → IsWordRemainder plain check → AddsCheck plain word check
    → IsCodeword word
encoded_is_codeword plain word check r a =
    codeword_from_values word (λ j h. only_zero (word_value word (root_at j)) (word_value plain (root_at j))
    (value_of_check plain word check (root_at j) r.long a
    ∙ ap (value_of check) (root_at-is j) ∙ r.same j h ∙ ap (word_value plain) (sym (root_at-is j))))

-- two codewords with the same information are the same
pub encoded_is_only : (a b : List ℕ) → IsWord a → IsWord b → IsCodeword a → IsCodeword b
    → take INFORMATION_BYTES a ≡ take INFORMATION_BYTES b → a ≡ b
encoded_is_only a b p q f g e =
    same_codewords a b p q f g
    (weight-skip INFORMATION_BYTES 32 (difference a b)
    (λ i h.
    ap (λ z. bit_xor (conventional_of z) (conventional_of (slice_index b i)))
    (sym (get_or-take INFORMATION_BYTES a i 0 h) ∙ ap (λ l. get_or l i 0) e ∙ get_or-take INFORMATION_BYTES b i 0 h)
    ∙ xor_self (conventional_of (slice_index b i))))

-- the information is what the word begins with
pub begins_with : (information word : List ℕ) → length information ≡ INFORMATION_BYTES → length word ≡ WORD_BYTES
    → ((i : ℕ) → i < INFORMATION_BYTES → slice_index word i ≡ slice_index information i) →
    take INFORMATION_BYTES word ≡ information
begins_with information word h k same =
    let long : length (take INFORMATION_BYTES word) ≡ INFORMATION_BYTES = simp length-take (omega (arith, k)) in
    same_lists (take INFORMATION_BYTES word) information (long ∙ sym h) (λ i d l.
    get_or-take INFORMATION_BYTES word i d (omega (arith, long)) ∙ get_or_default word i d 0 (omega (arith, long))
    ∙ same i (omega (arith, long))
    ∙ get_or_default information i 0 d (omega (arith, long)))

pub encoded_is_word : (information word : List ℕ) → length word ≡ WORD_BYTES → ((i : ℕ) → get_or information i 0 < 256)
    → ((i : ℕ) → i < INFORMATION_BYTES → slice_index word i ≡ slice_index information i)
    → ((k : ℕ) → k < CHECK_BYTES → slice_index word (INFORMATION_BYTES + k) < 256) → IsWord word
encoded_is_word information word h fits same bytes = record {
  long = h;
  bytes = λ i l.
      elim (cases_lt i INFORMATION_BYTES) [
        | inl low ↦ omega (arith, same i low, fits i)
        | inr high ↦
            let e : i ≡ INFORMATION_BYTES + (i - INFORMATION_BYTES) = omega arith in
            subst (λ (n : ℕ). slice_index word n < 256) (sym e) (bytes (i - INFORMATION_BYTES) (omega arith))
      ];
}

-- one more check byte is written
pub check_more : (old now check : List ℕ) (k v : ℕ) → length now ≡ WORD_BYTES → k < CHECK_BYTES → v < 256
    → conventional_of v ≡ get_or check k 0
    → ((i : ℕ) → i < INFORMATION_BYTES → get_or now i 0 ≡ get_or old i 0)
    → ((j : ℕ) → j < k → conventional_of (get_or now (INFORMATION_BYTES + j) 0) ≡ get_or check j 0)
    → ((j : ℕ) → j < k → get_or now (INFORMATION_BYTES + j) 0 < 256)
    → ((i : ℕ) → i < INFORMATION_BYTES → get_or (slice_set now (INFORMATION_BYTES + k) v) i 0 ≡ get_or old i 0)
    × ((j : ℕ) → j < k + 1 → conventional_of (get_or (slice_set now (INFORMATION_BYTES + k) v)
    (INFORMATION_BYTES + j) 0) ≡ get_or check j 0)
    × ((j : ℕ) → j < k + 1 → get_or (slice_set now (INFORMATION_BYTES + k) v) (INFORMATION_BYTES + j) 0 < 256)
    × (length (slice_set now (INFORMATION_BYTES + k) v) ≡ WORD_BYTES)
check_more old now check k v long hk small is kept done fits =
    let here : get_or (slice_set now (INFORMATION_BYTES + k) v) (INFORMATION_BYTES + k) 0 ≡ v =
    get_or-set_same now (INFORMATION_BYTES + k) v 0 (omega arith) in
    let other : (j : ℕ) → j ≢ k → get_or (slice_set now (INFORMATION_BYTES + k) v)
    (INFORMATION_BYTES + j) 0 ≡ get_or now (INFORMATION_BYTES + j) 0 =
    λ j ne. get_or-set_other now (INFORMATION_BYTES + k) (INFORMATION_BYTES + j) v 0 (omega (arith, ne)) in (
      λ i h. get_or-set_other now (INFORMATION_BYTES + k) i v 0 (omega arith) ∙ kept i h,
      λ j h. elim (cases_eq j k) [
        | inl e ↦
            ap (λ z. conventional_of (get_or (slice_set now (INFORMATION_BYTES + k) v) (INFORMATION_BYTES + z) 0)) e ∙
            ap conventional_of here ∙ is
            ∙ ap (λ z. get_or check z 0) (sym e)
        | inr ne ↦ ap conventional_of (other j ne) ∙ done j (omega (arith, ne))
      ],
      λ j h. elim (cases_eq j k) [
        | inl e ↦ omega (
          arith,
          ap (λ z. get_or (slice_set now (INFORMATION_BYTES + k) v) (INFORMATION_BYTES + z) 0) e,
          here,
        )
        | inr ne ↦ omega (arith, other j ne, fits j (omega (arith, ne)))
      ],
      length-set now (INFORMATION_BYTES + k) v ∙ long,
    )
