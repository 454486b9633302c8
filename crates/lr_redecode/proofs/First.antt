-- The first path has no pins, so one pass is the usual decoding.
use Rattle.std.proofs.Common.{◌≡◌, ℕ, ℤ, zero, suc, ◌*◌, ◌/◌, ◌%◌, ◌<◌, List, [], ◌∷◌, map}
use Rattle.std.proofs.Common.{Bool, refl, sym, ap, ◌∙◌, arith}
use Rattle.std.specs.Prelude.{Option, Some, None, is_none, unwrap_or, slice_index}
use Rattle.std.specs.List.{range_with_len, find}
use Rattle.lr_bits.specs.declared.sizes.TheConstants.{BLOCK_BYTES}
use Rattle.lr_block.specs.Blocks.{word_of}
use Rattle.lr_block.specs.Outcomes.{first_lost, outcome_of_block, restored_block, restored_of, restored_word}
use Rattle.lr_block.specs.Outcomes
use Rattle.lr_block.specs.Randomiser.{randomised_block}
use Rattle.lr_block.proofs.Interleaving.{below_four}
use Rattle.lr_conv.specs.declared.line.LineCode.{LineCode}
use Rattle.lr_trellis.specs.Path.{bytes_of_bits, nearest_path}
use Rattle.lr_pinned.specs.Pinned.{misses}
use Rattle.lr_pinned.proofs.Unique.{free_named}
use Rattle.lr_redecode.specs.Redecoded.{block_by, known_block, known_word, nothing, outcome_after, outcome_at}
use Rattle.lr_redecode.specs.Redecoded.{outcome_by, pin_by, pins_of, with_block}

-- ---- no pins
nothing_known : (k : ℕ) → known_word nothing k ≡ None
nothing_known zero = refl
nothing_known (suc zero) = refl
nothing_known (suc (suc zero)) = refl
nothing_known (suc (suc (suc zero))) = refl
nothing_known (suc (suc (suc (suc k)))) = refl

none_missed : (f : ℕ → Option Bool) → ((i : ℕ) → f i ≡ None) → (is : List ℕ) (y : List Bool) → misses (map f is) y ≡ 0
none_missed f none [] y = refl
none_missed f none (i ∷ is) [] = refl
none_missed f none (i ∷ is) (b ∷ y) = rw (none i) (omega (arith, none_missed f none is y))

free_pins : (y : List Bool) → misses (pins_of nothing) y ≡ 0
unfolding pins_of
free_pins y =
    none_missed (λ i. pin_by i (known_word nothing (i / 8 % 4)))
    (λ i. ap (pin_by i) (nothing_known (i / 8 % 4))) (range_with_len 0 (8 * BLOCK_BYTES)) y

pub first_block : (line : LineCode) (w : List ℤ) →
    randomised_block (bytes_of_bits (nearest_path line w)) ≡ block_by line w nothing
unfolding block_by
first_block line w = ap (λ x. randomised_block (bytes_of_bits x)) (sym (free_named line (pins_of nothing) w free_pins))

-- ---- the outcome of the first path
map_same : (f g : ℕ → ℕ) → ((i : ℕ) → f i ≡ g i) → (is : List ℕ) → map f is ≡ map g is
map_same f g same [] = refl
map_same f g same (i ∷ is) = let e = same i in let r = map_same f g same is in cc

module _ (block : List ℕ) where
  abbrev first : List (Option (List ℕ))
  first = with_block nothing block

  first_word : (k : ℕ) → k < 4 → known_word first k ≡ restored_of (word_of block k)
  unfolding with_block
  first_word = below_four (λ k. known_word first k ≡ restored_of (word_of block k)) refl refl refl refl

  same_block : known_block first ≡ restored_block block
  unfolding known_block restored_block restored_word
  same_block =
      map_same _ _
      (λ place. ap (λ o. slice_index (unwrap_or o []) (place / 4)) (first_word (place % 4) (omega arith)))
      (range_with_len 0 BLOCK_BYTES)

  same_lost : find (λ k. is_none (known_word first k)) (range_with_len 0 4) ≡ first_lost block
  unfolding with_block first_lost
  same_lost = refl

  same_outcome : (o : Option ℕ) → outcome_at block first o ≡ Outcomes.outcome_at block o
  same_outcome None = rw same_block refl
  same_outcome (Some k) = refl

  -- the outcome of the first path alone
  plain_outcome : outcome_by block first ≡ Outcomes.outcome_at block (first_lost block)
  unfolding outcome_by
  plain_outcome = ap (outcome_at block first) same_lost ∙ same_outcome (first_lost block)

-- one pass is the usual decoding
pub one_pass : (line : LineCode) (w : List ℤ) →
    outcome_after line w 1 ≡ outcome_of_block (bytes_of_bits (nearest_path line w))
unfolding outcome_of_block outcome_after
one_pass line w =
    plain_outcome (block_by line w nothing)
    ∙ ap (λ b. Outcomes.outcome_at b (first_lost b)) (sym (first_block line w))
