-- Known words, and the outcome that they make.
use Rattle.std.proofs.Common.{◌≡◌, ℕ, ◌+◌, ◌*◌, ◌/◌, ◌%◌, ◌<◌, List, [], ◌∷◌, length, take, get_or}
use Rattle.std.proofs.Common.{refl, sym, ap, ◌∙◌, arith}
use Rattle.std.specs.Prelude.{Option, Some, None, unwrap_or}
use Rattle.std.proofs.lemmas.List.FromFn.{get_or-map-range_with_len, length-map-range_with_len}
use Rattle.lr_bits.specs.declared.outcome.Outcome.TheVariants.{Restored, Lost}
use Rattle.lr_bits.specs.declared.sizes.TheConstants.{BLOCK_BYTES, FRAME_BYTES}
use Rattle.lr_rs.specs.Words.{IsRestored, IsWord, distance}
use Rattle.lr_rs.specs.declared.sizes.TheConstants.{WORD_BYTES}
use Rattle.lr_block.specs.Blocks.{word_of}
use Rattle.lr_block.specs.Outcomes.{restored_of}
use Rattle.lr_block.proofs.Interleaving.{changes_by_words, every_fourth_by_all, same_blocks, below_four}
use Rattle.lr_block.proofs.Outcomes.{restored_of-is}
use Rattle.lr_redecode.specs.Redecoded.{known_block, known_word, outcome_at, outcome_by}
use Rattle.lr_redecode.proofs.Rounds.{IsFour}

-- ---- the restored word
none_by : (o : Option (List ℕ)) → ((c : List ℕ) → o ≡ Some c → ⊥) → None ≡ o
none_by None none = refl
none_by (Some c) none = absurd (none c refl)

pub restored_some : (word c : List ℕ) → IsWord word → IsRestored word c → Some c ≡ restored_of word
restored_some word c w r = sym ((restored_of-is word w c).0 r)

pub restored_none : (word : List ℕ) → IsWord word → ((c : List ℕ) → IsRestored word c → ⊥) → None ≡ restored_of word
restored_none word w none = none_by (restored_of word) (λ c e. none c ((restored_of-is word w c).1 e))

-- ---- the block of four words
module _ (a b c d : List ℕ) where
  abbrev pub four : List (Option (List ℕ))
  four = Some a ∷ Some b ∷ Some c ∷ Some d ∷ []

  abbrev at : ℕ → List ℕ
  at k = unwrap_or (known_word four k) []

  get_or-known_block : (place : ℕ) → place < BLOCK_BYTES → get_or (known_block four) place 0 ≡
      get_or (at (place % 4)) (place / 4) 0
  unfolding known_block
  get_or-known_block place h =
      get_or-map-range_with_len (λ place. get_or (at (place % 4)) (place / 4) 0) 0 BLOCK_BYTES place place 0 h
      (omega arith)

  length-known_block : length (known_block four) ≡ BLOCK_BYTES
  unfolding known_block
  length-known_block = length-map-range_with_len (λ place. get_or (at (place % 4)) (place / 4) 0) 0 BLOCK_BYTES

  word_is : (k : ℕ) → k < 4 → length (at k) ≡ WORD_BYTES → word_of (known_block four) k ≡ at k
  word_is k small long =
      sym (every_fourth_by_all WORD_BYTES (known_block four) (at k) k long (λ i h.
      let same_word : (4 * i + k) % 4 ≡ k = omega arith in
      let same_place : (4 * i + k) / 4 ≡ i = omega arith in
      sym (get_or-known_block (4 * i + k) (omega arith)
      ∙ ap (λ word. get_or (at word) ((4 * i + k) / 4) 0) same_word
      ∙ ap (λ place. get_or (at k) place 0) same_place)))

  module _ (long_a : length a ≡ WORD_BYTES) (long_b : length b ≡ WORD_BYTES) (long_c : length c ≡ WORD_BYTES)
      (long_d : length d ≡ WORD_BYTES) where
    words : (word_of (known_block four) 0 ≡ a) × (word_of (known_block four) 1 ≡ b)
        × (word_of (known_block four) 2 ≡ c) × (word_of (known_block four) 3 ≡ d)
    words = (
      word_is 0 (omega arith) long_a,
      word_is 1 (omega arith) long_b,
      word_is 2 (omega arith) long_c,
      word_is 3 (omega arith) long_d,
    )

    whole_is : (whole : List ℕ) → length whole ≡ BLOCK_BYTES → (word_of whole 0 ≡ a) × (word_of whole 1 ≡ b)
        × (word_of whole 2 ≡ c) × (word_of whole 3 ≡ d) → whole ≡ known_block four
    whole_is whole long same =
        same_blocks whole (known_block four) long length-known_block
        (below_four (λ k. word_of whole k ≡ word_of (known_block four) k)
        (same.0 ∙ sym words.0)
        (same.1 ∙ sym words.1)
        (same.2 ∙ sym words.2)
        (same.3 ∙ sym words.3))

    pub restored_is : (block whole frame : List ℕ) (i j k l : ℕ) → length whole ≡ BLOCK_BYTES →
        (word_of whole 0 ≡ a) × (word_of whole 1 ≡ b) × (word_of whole 2 ≡ c) × (word_of whole 3 ≡ d) →
        frame ≡ take FRAME_BYTES whole →
        i ≡ distance WORD_BYTES (word_of block 0) a → j ≡ distance WORD_BYTES (word_of block 1) b →
        k ≡ distance WORD_BYTES (word_of block 2) c → l ≡ distance WORD_BYTES (word_of block 3) d →
        Restored (record { 0 = i ∷ j ∷ k ∷ l ∷ [] }) frame ≡ outcome_at block four None
    restored_is block whole frame i j k l long same e p q r s =
        let changed = changes_by_words block (known_block four) a b c d i j k l words p q r s in
        let first = e ∙ ap (take FRAME_BYTES) (whole_is whole long same) in
        rw (changed, first) refl

-- ---- the outcome of what is known
module _ (block : List ℕ) (known : List (Option (List ℕ))) where
  pub lost_first : known_word known 0 ≡ None → Lost 0 ≡ outcome_by block known
  unfolding outcome_by
  lost_first e = rw e refl

  pub lost_second : (a : List ℕ) → known_word known 0 ≡ Some a → known_word known 1 ≡ None →
      Lost 1 ≡ outcome_by block known
  unfolding outcome_by
  lost_second a e f = rw (e, f) refl

  pub lost_third : (a b : List ℕ) → known_word known 0 ≡ Some a → known_word known 1 ≡ Some b →
      known_word known 2 ≡ None → Lost 2 ≡ outcome_by block known
  unfolding outcome_by
  lost_third a b e f g = rw (e, f, g) refl

  pub lost_fourth : (a b c : List ℕ) → known_word known 0 ≡ Some a → known_word known 1 ≡ Some b →
      known_word known 2 ≡ Some c → known_word known 3 ≡ None → Lost 3 ≡ outcome_by block known
  unfolding outcome_by
  lost_fourth a b c e f g h = rw (e, f, g, h) refl

same_list : (known : List (Option (List ℕ))) (p q r s : Option (List ℕ)) (a b c d : List ℕ) →
    known ≡ p ∷ q ∷ r ∷ s ∷ [] → p ≡ Some a → q ≡ Some b → r ≡ Some c → s ≡ Some d →
    known ≡ Some a ∷ Some b ∷ Some c ∷ Some d ∷ []
same_list known p q r s a b c d e f g h i = cc

all_known : (block a b c d : List ℕ) → outcome_at block (four a b c d) None ≡ outcome_by block (four a b c d)
unfolding outcome_by
all_known block a b c d = refl

is_four : (known : List (Option (List ℕ))) → length known ≡ 4 → IsFour known
is_four [] e = absurd (omega arith)
is_four (a ∷ []) e = absurd (omega arith)
is_four (a ∷ b ∷ []) e = absurd (omega arith)
is_four (a ∷ b ∷ c ∷ []) e = absurd (omega arith)
is_four (a ∷ b ∷ c ∷ d ∷ []) e = refl
is_four (a ∷ b ∷ c ∷ d ∷ f ∷ known) e = absurd (omega arith)

pub found_all : (block : List ℕ) (known : List (Option (List ℕ))) (a b c d : List ℕ) → length known ≡ 4 →
    known_word known 0 ≡ Some a → known_word known 1 ≡ Some b → known_word known 2 ≡ Some c →
    known_word known 3 ≡ Some d → outcome_at block (four a b c d) None ≡ outcome_by block known
found_all block known a b c d long e f g h =
    all_known block a b c d
    ∙ ap (outcome_by block) (sym (same_list known _ _ _ _ a b c d (is_four known long) e f g h))
