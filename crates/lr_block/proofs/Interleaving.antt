-- Blocks, their words, and the frame in them.
use Rattle.std.proofs.Common.{◌≡◌, ℕ, zero, suc, ◌+◌, ◌*◌, ◌/◌, ◌%◌, ◌<◌, ◌≤◌, ◌≢◌, List, [], ◌∷◌, ◌++◌, length, map}
use Rattle.std.proofs.Common.{refl, zero-add, get_or, take, sym, ap, subst, ◌∙◌, arith, below_more, length-take-le}
use Rattle.std.proofs.lemmas.List.{get_or-take}
use Rattle.std.proofs.lemmas.Grind.{same_number_lists}
use Rattle.std.proofs.lemmas.List.FromFn.{fill_by_all, get_or-map-range_with_len, length-map-range_with_len}
use Rattle.std.proofs.lemmas.List.FromFn.{map-range_with_len_more, take-map-range_with_len}
use Rattle.std.specs.List.{range_with_len}
use Rattle.lr_rs.specs.Words.{IsWord, IsCodeword, IsRestored, distance}
use Rattle.lr_rs.proofs.Exactness.{distance-self}
use Rattle.lr_block.specs.Blocks.{every_fourth, word_of, information_of, IsEncoded, IsRestoredBlock, IsFirstLost}
use Rattle.lr_block.specs.Blocks.{changes_of}
use Rattle.lr_bits.specs.declared.sizes.TheConstants.{BLOCK_BYTES, FRAME_BYTES}
use Rattle.lr_rs.specs.declared.sizes.TheConstants.{INFORMATION_BYTES, WORD_BYTES}

pub below_four : (P : ℕ → Type 0) → P 0 → P 1 → P 2 → P 3 → (k : ℕ) → k < 4 → P k
below_four P a b c d zero h = a
below_four P a b c d (suc zero) h = b
below_four P a b c d (suc (suc zero)) h = c
below_four P a b c d (suc (suc (suc zero))) h = d
below_four P a b c d (suc (suc (suc (suc k)))) h = absurd (omega arith)

pub get_or-every_fourth : (count : ℕ) (bytes : List ℕ) (k i : ℕ) → i < count
    → get_or (every_fourth count bytes k) i 0 ≡ get_or bytes (4 * i + k) 0
unfolding every_fourth
get_or-every_fourth count bytes k i h =
    get_or-map-range_with_len (λ i. get_or bytes (4 * i + k) 0) 0 count i i 0 h (omega arith)

pub length-every_fourth : (count : ℕ) (bytes : List ℕ) (k : ℕ) → length (every_fourth count bytes k) ≡ count
unfolding every_fourth
length-every_fourth count bytes k = length-map-range_with_len (λ i. get_or bytes (4 * i + k) 0) 0 count

pub every_fourth_by_all : (count : ℕ) (bytes word : List ℕ) (k : ℕ) → length word ≡ count
    → ((i : ℕ) → i < count → get_or word i 0 ≡ get_or bytes (4 * i + k) 0) → word ≡ every_fourth count bytes k
unfolding every_fourth
every_fourth_by_all count bytes word k long all = fill_by_all (λ i. get_or bytes (4 * i + k) 0) word count 0 long all

pub every_fourth-none : (bytes : List ℕ) (k : ℕ) → every_fourth 0 bytes k ≡ []
unfolding every_fourth
every_fourth-none bytes k = refl

pub every_fourth-more : (count : ℕ) (bytes : List ℕ) (k place : ℕ) → place ≡ 4 * count + k
    → every_fourth (count + 1) bytes k ≡ every_fourth count bytes k ++ get_or bytes place 0 ∷ []
unfolding every_fourth
every_fourth-more count bytes k place e =
    map-range_with_len_more (λ i. get_or bytes (4 * i + k) 0) 0 count count (zero-add count)
    ∙ ap (λ n. map (λ i. get_or bytes (4 * i + k) 0) (range_with_len 0 count) ++ get_or bytes n 0 ∷ []) (sym e)

-- the first bytes of a word
pub take-every_fourth : (count more : ℕ) (bytes : List ℕ) (k : ℕ) → count ≤ more
    → take count (every_fourth more bytes k) ≡ every_fourth count bytes k
unfolding every_fourth
take-every_fourth count more bytes k h = take-map-range_with_len (λ i. get_or bytes (4 * i + k) 0) 0 more count h

-- the information of a word is the first 223 bytes of it
pub information_of-take : (block : List ℕ) (k : ℕ) → k < 4 → FRAME_BYTES ≤ length block
    → information_of (take FRAME_BYTES block) k ≡ take INFORMATION_BYTES (word_of block k)
information_of-take block k small long =
    sym (take-every_fourth INFORMATION_BYTES WORD_BYTES block k (omega arith)
    ∙ every_fourth_by_all INFORMATION_BYTES (take FRAME_BYTES block) (every_fourth INFORMATION_BYTES block k) k
    (length-every_fourth INFORMATION_BYTES block k)
    (λ i h. get_or-every_fourth INFORMATION_BYTES block k i h ∙
    sym (get_or-take FRAME_BYTES block (4 * i + k) 0 (omega arith))))

-- two blocks with the same words are the same
pub same_blocks : (a b : List ℕ) → length a ≡ BLOCK_BYTES → length b ≡ BLOCK_BYTES
    → ((k : ℕ) → k < 4 → word_of a k ≡ word_of b k) → a ≡ b
same_blocks a b p q same =
    same_number_lists a b (p ∙ sym q) (λ i h.
    let e : 4 * (i / 4) + i % 4 ≡ i = omega arith in
    ap (λ place. get_or a place 0) (sym e) ∙ sym (get_or-every_fourth WORD_BYTES a (i % 4) (i / 4) (omega arith))
    ∙ ap (λ word. get_or word (i / 4) 0) (same (i % 4) (omega arith))
    ∙ get_or-every_fourth WORD_BYTES b (i % 4) (i / 4) (omega arith) ∙ ap (λ place. get_or b place 0) e)

-- the frame is the first 892 bytes of a block whose words have its information
pub begins_by_words : (frame block : List ℕ) → length frame ≡ FRAME_BYTES → length block ≡ BLOCK_BYTES
    → ((k : ℕ) → k < 4 → take INFORMATION_BYTES (word_of block k) ≡ information_of frame k) →
    take FRAME_BYTES block ≡ frame
begins_by_words frame block p q same =
    same_number_lists (take FRAME_BYTES block) frame (length-take-le FRAME_BYTES block (omega arith) ∙ sym p) (λ i h.
    let short : i < FRAME_BYTES = omega (arith, length-take-le FRAME_BYTES block (omega (arith, q))) in
    let e : 4 * (i / 4) + i % 4 ≡ i = omega arith in
    get_or-take FRAME_BYTES block i 0 short ∙ ap (λ place. get_or block place 0) (sym e)
    ∙ sym (get_or-every_fourth WORD_BYTES block (i % 4) (i / 4) (omega arith))
    ∙ sym (get_or-take INFORMATION_BYTES (word_of block (i % 4)) (i / 4) 0 (omega arith))
    ∙ ap (λ word. get_or word (i / 4) 0) (same (i % 4) (omega arith))
    ∙ get_or-every_fourth INFORMATION_BYTES frame (i % 4) (i / 4) (omega arith) ∙ ap (λ place. get_or frame place 0) e)

-- the codeword that begins with the information, and no other
pub record IsTheCodeword (information word : List ℕ) : Type 0 where
  pub is_word : IsWord word
  pub is_codeword : IsCodeword word
  pub begins : take INFORMATION_BYTES word ≡ information
  pub only : (c : List ℕ) → IsWord c → IsCodeword c → take INFORMATION_BYTES c ≡ information → c ≡ word

pub is_encoded : (frame block : List ℕ) → length frame ≡ FRAME_BYTES → length block ≡ BLOCK_BYTES
    → ((k : ℕ) → k < 4 → IsTheCodeword (information_of frame k) (word_of block k)) → IsEncoded frame block
is_encoded frame block p q each = record {
  long = q;
  words = λ k h. (each k h).is_word;
  codewords = λ k h. (each k h).is_codeword;
  begins = begins_by_words frame block p q (λ k h. (each k h).begins);
}

pub is_only_encoded : (frame block other : List ℕ) → length block ≡ BLOCK_BYTES
    → ((k : ℕ) → k < 4 → IsTheCodeword (information_of frame k) (word_of block k)) → IsEncoded frame other
    → other ≡ block
is_only_encoded frame block other q each o =
    same_blocks other block o.long q (λ k h.
    (each k h).only (word_of other k) (o.words k h) (o.codewords k h)
    (sym (information_of-take other k h (omega (arith, o.long))) ∙ ap (λ f. information_of f k) o.begins))

-- one word more is put into a block
pub codewords_more : (frame old new information word : List ℕ) (k : ℕ) → k < 4
    → ((j : ℕ) → j < k → IsTheCodeword (information_of frame j) (word_of old j))
    → ((j : ℕ) → j < 4 → j ≢ k → word_of new j ≡ word_of old j)
    → information ≡ information_of frame k → word_of new k ≡ word → IsTheCodeword information word
    → (j : ℕ) → j < k + 1 → IsTheCodeword (information_of frame j) (word_of new j)
codewords_more frame old new information word k small each kept e put here =
    below_more (λ j. IsTheCodeword (information_of frame j) (word_of new j)) k
    (λ j h. subst (IsTheCodeword (information_of frame j)) (sym (kept j (omega arith) (omega arith))) (each j h))
    (subst (IsTheCodeword (information_of frame k)) (sym put) (subst (λ i. IsTheCodeword i word) e here))

-- four words are put into a block
pub four_words : (b0 b1 b2 b3 first second third fourth : List ℕ)
    → word_of b0 0 ≡ first
    → word_of b1 1 ≡ second → ((j : ℕ) → j < 4 → j ≢ 1 → word_of b1 j ≡ word_of b0 j)
    → word_of b2 2 ≡ third → ((j : ℕ) → j < 4 → j ≢ 2 → word_of b2 j ≡ word_of b1 j)
    → word_of b3 3 ≡ fourth → ((j : ℕ) → j < 4 → j ≢ 3 → word_of b3 j ≡ word_of b2 j)
    → (word_of b3 0 ≡ first) × (word_of b3 1 ≡ second) × (word_of b3 2 ≡ third) × (word_of b3 3 ≡ fourth)
four_words b0 b1 b2 b3 first second third fourth p0 p1 k1 p2 k2 p3 k3 = (
  k3 0 (omega arith) (omega arith) ∙ k2 0 (omega arith) (omega arith) ∙ k1 0 (omega arith) (omega arith) ∙ p0,
  k3 1 (omega arith) (omega arith) ∙ k2 1 (omega arith) (omega arith) ∙ p1,
  k3 2 (omega arith) (omega arith) ∙ p2,
  p3,
)

pub restored_by_words : (block restored first second third fourth : List ℕ) → length restored ≡ BLOCK_BYTES
    → (word_of restored 0 ≡ first) × (word_of restored 1 ≡ second) × (word_of restored 2 ≡ third)
    × (word_of restored 3 ≡ fourth)
    → IsRestored (word_of block 0) first → IsRestored (word_of block 1) second
    → IsRestored (word_of block 2) third → IsRestored (word_of block 3) fourth
    → IsRestoredBlock block restored
restored_by_words block restored first second third fourth long same r0 r1 r2 r3 = record {
  long = long;
  words =
      below_four (λ k. IsRestored (word_of block k) (word_of restored k))
      (subst (IsRestored (word_of block 0)) (sym same.0) r0) (subst (IsRestored (word_of block 1)) (sym same.1) r1)
      (subst (IsRestored (word_of block 2)) (sym same.2) r2) (subst (IsRestored (word_of block 3)) (sym same.3) r3);
}

pub first_lost : (block : List ℕ) (named k : ℕ) → named ≡ k → k < 4
    → ((j : ℕ) → j < k → (c : List ℕ) × IsRestored (word_of block j) c)
    → ((c : List ℕ) → IsRestored (word_of block k) c → ⊥) → IsFirstLost block named
first_lost block named k e small before none =
    subst (IsFirstLost block) (sym e) (record { word = small; before = before; lost = none })

pub changes_by_words : (block restored first second third fourth : List ℕ) (in_first in_second in_third in_fourth : ℕ)
    → (word_of restored 0 ≡ first) × (word_of restored 1 ≡ second) × (word_of restored 2 ≡ third)
    × (word_of restored 3 ≡ fourth)
    → in_first ≡ distance WORD_BYTES (word_of block 0) first → in_second ≡ distance WORD_BYTES (word_of block 1) second
    → in_third ≡ distance WORD_BYTES (word_of block 2) third → in_fourth ≡ distance WORD_BYTES (word_of block 3) fourth
    → in_first ∷ in_second ∷ in_third ∷ in_fourth ∷ [] ≡ changes_of block restored
changes_by_words block restored first second third fourth in_first in_second in_third in_fourth same p0 p1 p2 p3 =
    rw (same.0, same.1, same.2, same.3, p0, p1, p2, p3) refl

-- some word is restored to
abbrev pub HasRestored : List ℕ → ℕ → Type 0
HasRestored block k = (c : List ℕ) × IsRestored (word_of block k) c

pub lost_first : (block : List ℕ) (named : ℕ) → named ≡ 0 → ((c : List ℕ) → IsRestored (word_of block 0) c → ⊥)
    → IsFirstLost block named
lost_first block named e none = first_lost block named 0 e (omega arith) (λ j h. absurd (omega arith)) none

pub lost_second : (block : List ℕ) (named : ℕ) → named ≡ 1 → HasRestored block 0
    → ((c : List ℕ) → IsRestored (word_of block 1) c → ⊥) → IsFirstLost block named
lost_second block named e r0 none =
    first_lost block named 1 e (omega arith) (below_more (HasRestored block) 0 (λ j h. absurd (omega arith)) r0) none

pub lost_third : (block : List ℕ) (named : ℕ) → named ≡ 2 → HasRestored block 0 → HasRestored block 1
    → ((c : List ℕ) → IsRestored (word_of block 2) c → ⊥) → IsFirstLost block named
lost_third block named e r0 r1 none =
    first_lost block named 2 e (omega arith)
    (below_more (HasRestored block) 1 (below_more (HasRestored block) 0 (λ j h. absurd (omega arith)) r0) r1) none

pub lost_fourth : (block : List ℕ) (named : ℕ) → named ≡ 3 → HasRestored block 0 → HasRestored block 1
    → HasRestored block 2
    → ((c : List ℕ) → IsRestored (word_of block 3) c → ⊥) → IsFirstLost block named
lost_fourth block named e r0 r1 r2 none =
    first_lost block named 3 e (omega arith)
    (below_more (HasRestored block) 2
    (below_more (HasRestored block) 1 (below_more (HasRestored block) 0 (λ j h. absurd (omega arith)) r0)
    r1) r2) none

-- a block of four codewords is its own restored block
pub restored_itself : (block : List ℕ) → length block ≡ BLOCK_BYTES → ((i : ℕ) → get_or block i 0 < 256)
    → ((k : ℕ) → k < 4 → IsCodeword (word_of block k)) → IsRestoredBlock block block
restored_itself block long bytes codewords = record {
  long = long;
  words = λ k h. record {
    is_word = record {
      long = length-every_fourth WORD_BYTES block k;
      bytes = λ i l. subst (λ (n : ℕ). n < 256) (sym (get_or-every_fourth WORD_BYTES block k i l)) (bytes (4 * i + k));
    };
    is_codeword = codewords k h;
    near = omega (arith, distance-self WORD_BYTES (word_of block k));
  };
}

pub changes_of_itself : (block : List ℕ) → changes_of block block ≡ 0 ∷ 0 ∷ 0 ∷ 0 ∷ []
changes_of_itself block =
    let e0 = distance-self WORD_BYTES (word_of block 0) in
    let e1 = distance-self WORD_BYTES (word_of block 1) in
    let e2 = distance-self WORD_BYTES (word_of block 2) in
    let e3 = distance-self WORD_BYTES (word_of block 3) in
    cc
