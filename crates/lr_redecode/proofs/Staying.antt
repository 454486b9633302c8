-- A restored frame stays, and is whole.
use Rattle.std.proofs.Common.{◌≡◌, ℕ, ℤ, zero, suc, ◌/◌, ◌%◌, ◌<◌, ◌≤◌, ⊎_elim, List, [], ◌∷◌, length}
use Rattle.std.proofs.Common.{Bool, true, false, refl, sym, ap, subst, ◌∙◌, arith, length-take}
use Rattle.std.specs.Prelude.{Option, Some, None, is_none, unwrap_or, slice_index}
use Rattle.std.specs.List.{range_with_len, find}
use Rattle.std.proofs.lemmas.Bool.{true≢false, false≢true}
use Rattle.std.proofs.lemmas.List.FromFn.{length-map-range_with_len}
use Rattle.std.proofs.str.Laws.{order}
use Rattle.lr_bits.specs.declared.outcome.Corrected.{Corrected}
use Rattle.lr_bits.specs.declared.outcome.Outcome.{Outcome}
use Rattle.lr_bits.specs.declared.outcome.Outcome.TheVariants.{Restored, Lost}
use Rattle.lr_bits.specs.declared.sizes.TheConstants.{BLOCK_BYTES, FRAME_BYTES}
use Rattle.lr_conv.specs.declared.line.LineCode.{LineCode}
use Rattle.lr_redecode.specs.Redecoded.{block_by, count_known, known_after, known_block, known_word, next, nothing}
use Rattle.lr_redecode.specs.Redecoded.{outcome_after, outcome_at, outcome_by}
use Rattle.lr_redecode.proofs.Rounds.{IsFour, four_after, full_after}

-- ---- where a frame is restored, all four words are known
abbrev is_lost : Outcome → Bool
is_lost (Lost k) = true
is_lost (Restored corrected frame) = false

abbrev frame_of : Outcome → List ℕ
frame_of (Lost k) = []
frame_of (Restored corrected frame) = frame

module _ (block : List ℕ) (corrected : Corrected) (frame : List ℕ) where
  none_lost : (known : List (Option (List ℕ))) (o : Option ℕ) → outcome_at block known o ≡ Restored corrected frame →
      o ≡ None
  none_lost known None e = refl
  none_lost known (Some k) e = absurd (true≢false (ap is_lost e))

  all_some : (a b c d : Option (List ℕ)) →
      find (λ k. is_none (known_word (a ∷ b ∷ c ∷ d ∷ []) k)) (range_with_len 0 4) ≡ None →
      4 ≤ count_known (a ∷ b ∷ c ∷ d ∷ [])
  all_some (Some a) (Some b) (Some c) (Some d) e = omega arith
  all_some None b c d e = absurd (false≢true (ap is_none e))
  all_some (Some a) None c d e = absurd (false≢true (ap is_none e))
  all_some (Some a) (Some b) None d e = absurd (false≢true (ap is_none e))
  all_some (Some a) (Some b) (Some c) None e = absurd (false≢true (ap is_none e))

  all_known : (known : List (Option (List ℕ))) → IsFour known → outcome_by block known ≡ Restored corrected frame →
      4 ≤ count_known known
  unfolding outcome_by
  all_known known four e =
      let found : find (λ k. is_none (known_word known k)) (range_with_len 0 4) ≡ None = none_lost known _ e in
      subst (λ all. 4 ≤ count_known all) (sym four)
      (all_some _ _ _ _ (subst (λ all. find (λ k. is_none (known_word all k)) (range_with_len 0 4) ≡ None) four found))

  size_by : (known : List (Option (List ℕ))) (o : Option ℕ) → outcome_at block known o ≡ Restored corrected frame →
      length frame ≡ FRAME_BYTES
  unfolding known_block
  size_by known None e =
      let size : length (known_block known) ≡ BLOCK_BYTES = length-map-range_with_len
      (λ place. slice_index (unwrap_or (known_word known (place % 4)) []) (place / 4)) 0 BLOCK_BYTES in
      ap length (sym (ap frame_of e)) ∙ omega (arith, length-take FRAME_BYTES (known_block known), size)
  size_by known (Some k) e = absurd (true≢false (ap is_lost e))

  whole : (known : List (Option (List ℕ))) → outcome_by block known ≡ Restored corrected frame →
      length frame ≡ FRAME_BYTES
  unfolding outcome_by
  whole known e = size_by known _ e

-- ---- more passes
module _ (line : LineCode) (w : List ℤ) where
  abbrev after : ℕ → List (Option (List ℕ))
  after = known_after line w

  still : (n m : ℕ) → 4 ≤ count_known (after n) → n ≤ m → after m ≡ after n
  still n zero e l = let z : 0 ≡ n = omega arith in ap after z
  still n (suc m) e l =
      ⊎_elim
      (λ (h : m < n). let s : suc m ≡ n = omega arith in ap after s)
      (λ (h : n ≤ m). ap (next line w) (still n m e h) ∙ full_after line w n e)
      (order m n)

  pub restored_stays : (n m : ℕ) (frame : List ℕ) (corrected : Corrected) →
      outcome_after line w n ≡ Restored corrected frame → n ≤ m → outcome_after line w m ≡ Restored corrected frame
  unfolding outcome_after
  restored_stays n m frame corrected e l =
      let block = block_by line w nothing in
      ap (outcome_by block) (still n m (all_known block corrected frame (after n) (four_after line w n) e) l) ∙ e

  pub restored_whole : (n : ℕ) (frame : List ℕ) (corrected : Corrected) →
      outcome_after line w n ≡ Restored corrected frame → length frame ≡ FRAME_BYTES
  unfolding outcome_after
  restored_whole n frame corrected e = whole (block_by line w nothing) corrected frame (after n) e
