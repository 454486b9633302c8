-- The outcome of a block.
use Rattle.std.proofs.Common.{◌≡◌, ℕ, ◌+◌, ◌*◌, ◌/◌, ◌%◌, ◌<◌, ◌⊎◌, inl, inr, Bool, true, false, leb, eqb, Option}
use Rattle.std.proofs.Common.{Some, None, is_none, unwrap_or, List, [], length, take, get_or, refl, sym, ap, subst}
use Rattle.std.proofs.Common.{◌∙◌, arith}
use Rattle.std.specs.Int.Bits.{xor_lt}
use Rattle.std.specs.List.{range_with_len, list_all}
use Rattle.std.proofs.lemmas.Bool.{and_parts, and_from, leb-true, le-leb, eqb-true, eq-eqb, false≢true, true≢false}
use Rattle.std.proofs.lemmas.List.FromFn.{get_or-map-range_with_len, length-map-range_with_len}
use Rattle.lr_gf.specs.Field.{power}
use Rattle.lr_rs.specs.Words.{IsWord, IsRestored, word_value, distance}
use Rattle.lr_rs.proofs.Unique.{at_most_one}
use Rattle.lr_bits.specs.declared.outcome.Outcome.{Outcome}
use Rattle.lr_bits.specs.declared.outcome.Outcome.TheVariants.{Restored, Lost}
use Rattle.lr_block.specs.Randomiser.{randomised_block, sequence_byte}
use Rattle.lr_block.specs.Blocks.{word_of, changes_of, IsRestoredBlock, IsFirstLost}
use Rattle.lr_block.specs.Outcomes.{IsOutcome, is_restored_word, restored_of, RestoredIsFound, restored_word}
use Rattle.lr_block.specs.Outcomes.{first_lost, restored_block, outcome_at, outcome_of_block, IsBlock}
use Rattle.lr_block.specs.Outcomes.{OutcomeIsTheOne, SentBlockIsReceived, all_lists}
use Rattle.lr_block.proofs.Sequence.{randomised_block-randomised_block, get_or-randomised_block}
use Rattle.lr_block.proofs.Sequence.{length-randomised_block, sequence_byte-lt}
use Rattle.lr_block.proofs.Interleaving.{get_or-every_fourth, length-every_fourth, every_fourth_by_all, same_blocks}
use Rattle.lr_block.proofs.Searching.{IsAmong, member-range, from-range, list_all-member, list_all-from, cases_find}
use Rattle.lr_block.proofs.Searching.{cases_first, is_first, none_is_first, member-all_lists, from-all_lists}
use Rattle.lr_rs.specs.declared.sizes.TheConstants.{CHECK_BYTES, WORD_BYTES}
use Rattle.lr_bits.specs.declared.sizes.TheConstants.{BLOCK_BYTES, FRAME_BYTES}

-- the test of a codeword at a power
abbrev zero_at : List ℕ → ℕ → Bool
zero_at codeword j = eqb (word_value codeword (power 2 (11 * j))) 0

passes : (word codeword : List ℕ) → IsRestored word codeword → is_restored_word word codeword ≡ true
unfolding is_restored_word
passes word codeword r =
    and_from (leb (distance WORD_BYTES word codeword) 16) (list_all (zero_at codeword) (range_with_len 112 CHECK_BYTES))
    (le-leb (distance WORD_BYTES word codeword) 16 r.near)
    (list_all-from (zero_at codeword) (range_with_len 112 CHECK_BYTES) (λ j m.
    let range = from-range 112 CHECK_BYTES j m in
    eq-eqb (word_value codeword (power 2 (11 * j))) 0 (r.is_codeword.zero_at j range.0 range.1)))

passed : (word codeword : List ℕ) → IsWord codeword → is_restored_word word codeword ≡ true → IsRestored word codeword
unfolding is_restored_word
passed word codeword w t =
    let parts = and_parts (leb (distance WORD_BYTES word codeword) 16)
    (list_all (zero_at codeword) (range_with_len 112 CHECK_BYTES)) t in
    record {
      is_word = w;
      is_codeword = record {
        zero_at = λ j l h.
            eqb-true (word_value codeword (power 2 (11 * j))) 0
            (list_all-member (zero_at codeword) (range_with_len 112 CHECK_BYTES) j parts.1 (member-range 112 32 j l h));
      };
      near = leb-true (distance WORD_BYTES word codeword) 16 parts.0;
    }

member_is_word : (codeword : List ℕ) → IsAmong (all_lists 256 WORD_BYTES) codeword → IsWord codeword
member_is_word codeword m = let parts =
    from-all_lists 256 WORD_BYTES codeword m in record { long = parts.0; bytes = parts.1 }

-- whether there is a restored word, and which
cases_restored : (word : List ℕ) → ((restored_of word ≡ None) × ((c : List ℕ) → IsRestored word c → ⊥))
    ⊎ ((c : List ℕ) × (restored_of word ≡ Some c) × IsRestored word c)
unfolding restored_of
cases_restored word =
    elim (cases_find (is_restored_word word) (all_lists 256 WORD_BYTES)) [
      | inl none ↦
          inl (
            none.0,
            λ c r.
                false≢true (sym (none.1 c (member-all_lists 256 WORD_BYTES c r.is_word.long r.is_word.bytes))
                ∙ passes word c r),
          )
      | inr some ↦ inr (some.0, some.1, passed word some.0 (member_is_word some.0 some.2) some.3)
    ]

pub restored_of-is : RestoredIsFound
restored_of-is word w c = (to, from)
  where
    to : IsRestored word c → restored_of word ≡ Some c
    to r =
        elim (cases_restored word) [
          | inl none ↦ absurd (none.1 c r)
          | inr some ↦ some.1 ∙ ap (λ (z : List ℕ). Some z) (at_most_one word some.0 c w some.2 r)
        ]

    from : restored_of word ≡ Some c → IsRestored word c
    from e =
        elim (cases_restored word) [
          | inl none ↦ let h : None ≡ Some c = sym none.0 ∙ e in cc
          | inr some ↦ let h : Some some.0 ≡ Some c = sym some.1 ∙ e in let g : some.0 ≡ c = cc in
              subst (IsRestored word) g some.2
        ]

-- ---- the words of a block

pub word_is_word : (block : List ℕ) (k : ℕ) → IsBlock block → k < 4 → IsWord (word_of block k)
word_is_word block k b small = record {
  long = length-every_fourth WORD_BYTES block k;
  bytes = λ i h. let e = get_or-every_fourth WORD_BYTES block k i h in omega
      (arith, e, b.bytes (4 * i + k) (omega arith));
}

pub randomised_is_block : (block : List ℕ) → IsBlock block → IsBlock (randomised_block block)
randomised_is_block block b = record {
  long = length-randomised_block block;
  bytes = λ i h. omega (
    arith,
    get_or-randomised_block block i h,
    xor_lt 8 (get_or block i 0) (sequence_byte i) (b.bytes i h) (sequence_byte-lt i),
  );
}

-- whether a word of a block is lost
abbrev is_lost : List ℕ → ℕ → Bool
is_lost block k = is_none (restored_of (word_of block k))

lost_is_lost : (block : List ℕ) (k : ℕ) → ((c : List ℕ) → IsRestored (word_of block k) c → ⊥) → is_lost block k ≡ true
lost_is_lost block k none =
    elim (cases_restored (word_of block k)) [ inl h ↦ ap is_none h.0 | inr some ↦ absurd (none some.0 some.2) ]

restored_is_not_lost : (block : List ℕ) (k : ℕ) (c : List ℕ) → IsRestored (word_of block k) c → is_lost block k ≡ false
restored_is_not_lost block k c r =
    elim (cases_restored (word_of block k)) [ inl h ↦ absurd (h.1 c r) | inr some ↦ ap is_none some.1 ]

none_of_lost : (block : List ℕ) (k : ℕ) → is_lost block k ≡ true → (c : List ℕ) → IsRestored (word_of block k) c → ⊥
none_of_lost block k e c r = false≢true (sym (restored_is_not_lost block k c r) ∙ e)

-- the restored word, where one is there
some_restored : (block : List ℕ) (k : ℕ) → is_lost block k ≡ false
    → IsRestored (word_of block k) (restored_word block k)
unfolding restored_word
some_restored block k e =
    elim (cases_restored (word_of block k)) [
      | inl h ↦ absurd (true≢false (sym (ap is_none h.0) ∙ e))
      | inr some ↦ subst (IsRestored (word_of block k))
          (sym (ap (λ (o : Option (List ℕ)). unwrap_or o []) some.1)) some.2
    ]

get_or-restored_block : (block : List ℕ) (place : ℕ) → place < BLOCK_BYTES → get_or (restored_block block) place 0
    ≡ get_or (restored_word block (place % 4)) (place / 4) 0
unfolding restored_block
get_or-restored_block block place h =
    get_or-map-range_with_len (λ place. get_or (restored_word block (place % 4)) (place / 4) 0) 0 BLOCK_BYTES place
    place 0 h (omega arith)

length-restored_block : (block : List ℕ) → length (restored_block block) ≡ BLOCK_BYTES
unfolding restored_block
length-restored_block block =
    length-map-range_with_len (λ place. get_or (restored_word block (place % 4)) (place / 4) 0) 0 BLOCK_BYTES

word_of-restored_block : (block : List ℕ) (k : ℕ) → k < 4 → length (restored_word block k) ≡ WORD_BYTES
    → word_of (restored_block block) k ≡ restored_word block k
word_of-restored_block block k small long =
    sym (every_fourth_by_all WORD_BYTES (restored_block block) (restored_word block k) k long (λ i h.
    let same_word : (4 * i + k) % 4 ≡ k = omega arith in
    let same_place : (4 * i + k) / 4 ≡ i = omega arith in
    sym (get_or-restored_block block (4 * i + k) (omega arith)
    ∙ ap (λ word. get_or (restored_word block word) ((4 * i + k) / 4) 0) same_word
    ∙ ap (λ place. get_or (restored_word block k) place 0) same_place)))

-- with no word lost, the restored words make a restored block
restored_block_is : (block : List ℕ) → ((k : ℕ) → k < 4 → is_lost block k ≡ false)
    → IsRestoredBlock block (restored_block block)
restored_block_is block none = record {
  long = length-restored_block block;
  words = λ k h.
      let r = some_restored block k (none k h) in
      subst (IsRestored (word_of block k)) (sym (word_of-restored_block block k h r.is_word.long)) r;
}

-- and there is no other
restored_block_is_only : (block restored : List ℕ) → IsBlock block → IsRestoredBlock block restored
    → restored ≡ restored_block block
restored_block_is_only block restored b r =
    let none : (k : ℕ) → k < 4 → is_lost block k ≡ false =
    λ k h. restored_is_not_lost block k (word_of restored k) (r.words k h) in
    let own : IsRestoredBlock block (restored_block block) = restored_block_is block none in
    same_blocks restored (restored_block block) r.long (length-restored_block block) (λ k h.
    at_most_one (word_of block k) (word_of restored k) (word_of (restored_block block) k)
    (word_is_word block k b h) (r.words k h) (own.words k h))

-- ---- the outcome

first_lost-restored : (block restored : List ℕ) → IsRestoredBlock block restored → first_lost block ≡ None
unfolding first_lost
first_lost-restored block restored r =
    none_is_first (is_lost block) 4 (λ k h. restored_is_not_lost block k (word_of restored k) (r.words k h))

first_lost-lost : (block : List ℕ) (k : ℕ) → IsFirstLost block k → first_lost block ≡ Some k
unfolding first_lost
first_lost-lost block k l =
    is_first (is_lost block) 4 k l.word (lost_is_lost block k l.lost)
    (λ j h. let r = l.before j h in restored_is_not_lost block j r.0 r.1)

cases_block : (block : List ℕ) → ((first_lost block ≡ None) × IsRestoredBlock block (restored_block block))
    ⊎ ((k : ℕ) × (first_lost block ≡ Some k) × IsFirstLost block k)
unfolding first_lost
cases_block block =
    elim (cases_first (is_lost block) 0 4) [
      | inl none ↦ inl (none.0, restored_block_is block (λ k h. none.1 k (omega arith) h))
      | inr some ↦
          inr (
            some.0,
            some.1,
            record {
              word = some.2;
              before = λ j h. (restored_word block j, some_restored block j (some.4 j (omega arith) h));
              lost = none_of_lost block some.0 some.3;
            },
          )
    ]

-- the outcome is an outcome
outcome_is : (block : List ℕ) → IsOutcome block (outcome_of_block block)
unfolding outcome_of_block
outcome_is block =
    elim (cases_block (randomised_block block)) [
      | inl none ↦ subst (λ (o : Option ℕ). IsOutcome block (outcome_at (randomised_block block) o))
          (sym none.0) (restored_block (randomised_block block), none.1, refl, refl)
      | inr some ↦ subst (λ (o : Option ℕ). IsOutcome block (outcome_at (randomised_block block) o)) (sym some.1) some.2
    ]

outcome_is_only : (block : List ℕ) → IsBlock block → (outcome : Outcome) → IsOutcome block outcome
    → outcome ≡ outcome_of_block block
unfolding outcome_of_block
outcome_is_only block b (Restored corrected frame) h =
    let none : first_lost (randomised_block block) ≡ None = first_lost-restored (randomised_block block) h.0 h.1 in
    let same : h.0 ≡ restored_block (randomised_block block) =
    restored_block_is_only (randomised_block block) h.0 (randomised_is_block block b) h.1 in
    rw none (restored_same (randomised_block block) corrected.0 frame h.0 same h.2 h.3)
  where
    restored_same : (plain numbers frame restored : List ℕ) → restored ≡ restored_block plain
        → numbers ≡ changes_of plain restored → frame ≡ take FRAME_BYTES restored
        → Restored (record { 0 = numbers }) frame ≡ outcome_at plain None
    restored_same plain numbers frame restored e p q =
        let p' : numbers ≡ changes_of plain (restored_block plain) = p ∙ ap (changes_of plain) e in
        let q' : frame ≡ take FRAME_BYTES (restored_block plain) = q ∙ ap (take FRAME_BYTES) e in
        rw (p', q') refl
outcome_is_only block b (Lost k) h = let some = first_lost-lost (randomised_block block) k h in rw some refl

pub outcome_is_the_one : OutcomeIsTheOne
outcome_is_the_one block b outcome =
    (outcome_is_only block b outcome, λ e. subst (IsOutcome block) (sym e) (outcome_is block))

-- ---- from the parts of a call

pub outcome_from_restored : (block plain restored numbers frame : List ℕ) → plain ≡ randomised_block block
    → IsRestoredBlock plain restored
    → numbers ≡ changes_of plain restored → frame ≡ take FRAME_BYTES restored
    → IsOutcome block (Restored (record { 0 = numbers }) frame)
outcome_from_restored block plain restored numbers frame e r p q = (
  restored,
  subst (λ (z : List ℕ). IsRestoredBlock z restored) e r,
  p
      ∙ ap (λ (z : List ℕ). changes_of z restored) e,
  q,
)

pub outcome_from_lost : (block plain : List ℕ) (k : ℕ) → plain ≡ randomised_block block → IsFirstLost plain k
    → IsOutcome block (Lost k)
outcome_from_lost block plain k e l = subst (λ (z : List ℕ). IsFirstLost z k) e l

pub sent_is_received : SentBlockIsReceived
sent_is_received frame sent received e b near =
    let restored : IsRestoredBlock received sent =
    record {
      long = e.long;
      words =
          λ k h. record { is_word = e.words k h; is_codeword = e.codewords k h; near = near k h };
    } in
    sym ((outcome_is_the_one (randomised_block received) (randomised_is_block received b)
    (Restored (record { 0 = changes_of received sent }) frame)).0
    (outcome_from_restored (randomised_block received) received sent (changes_of received sent) frame
    (sym (randomised_block-randomised_block received b.long)) restored refl
    (sym e.begins)))
