-- The 32 butterflies of a step, whatever computes them.
use Rattle.std.proofs.Common.{ap, sym, ◌∙◌, ◌≡◌, ◌+◌, ◌*◌, ◌/◌, ◌%◌, ◌<◌, ◌≤◌, ℕ, Bool, min, nat_lt, nat_eq, List}
use Rattle.std.proofs.Common.{slice_index, arith, ⊎_elim}
use Rattle.std.specs.Int.{bit_at}
use Rattle.std.proofs.str.Laws.{order}
use Rattle.lr_trellis.specs.Words.{branch_by, decision_place, decision_of}

-- the two states that butterfly k leads to
pub record Merged (costs old new : List ℕ) (evens odds k : ℕ) : Type 0 where
  pub even : slice_index new (2 * k) ≡ min (slice_index old k + branch_by costs (2 * k))
      (slice_index old (k + 32) + branch_by costs (2 * k + 64))
  pub odd : slice_index new (2 * k + 1) ≡ min (slice_index old k + branch_by costs (2 * k + 1))
      (slice_index old (k + 32) + branch_by costs (2 * k + 65))
  pub even_decided : nat_eq (bit_at evens k) 1 ≡ nat_lt (slice_index old (k + 32) + branch_by costs (2 * k + 64))
      (slice_index old k + branch_by costs (2 * k))
  pub odd_decided : nat_eq (bit_at odds k) 1 ≡ nat_lt (slice_index old (k + 32) + branch_by costs (2 * k + 65))
      (slice_index old k + branch_by costs (2 * k + 1))

-- the least cost of each state
module _ (costs old new : List ℕ) (evens odds : ℕ) (all : (k : ℕ) → k < 32 → Merged costs old new evens odds k) where
  abbrev cost_at : ℕ → ℕ → ℕ → ℕ
  cost_at half far near =
      min (slice_index old half + branch_by costs near) (slice_index old (half + 32) + branch_by costs far)

  even_cost : (s k : ℕ) → k < 32 → s ≡ 2 * k → slice_index new s ≡ cost_at (s / 2) (s + 64) s
  even_cost s k l e =
      let half : s / 2 ≡ k = omega arith in
      let far : s + 64 ≡ 2 * k + 64 = omega arith in
      ap (slice_index new) e ∙ (all k l).even ∙ sym (ap (λ h. cost_at h (s + 64) s) half ∙ ap (λ f. cost_at k f s) far
      ∙ ap (cost_at k (2 * k + 64)) e)

  odd_cost : (s k : ℕ) → k < 32 → s ≡ 2 * k + 1 → slice_index new s ≡ cost_at (s / 2) (s + 64) s
  odd_cost s k l e =
      let half : s / 2 ≡ k = omega arith in
      let far : s + 64 ≡ 2 * k + 65 = omega arith in
      ap (slice_index new) e ∙ (all k l).odd ∙ sym (ap (λ h. cost_at h (s + 64) s) half ∙ ap (λ f. cost_at k f s) far
      ∙ ap (cost_at k (2 * k + 65)) e)

  pub each_cost : (s : ℕ) → s < 64 → slice_index new s ≡ cost_at (s / 2) (s + 64) s
  each_cost s l =
      ⊎_elim
      (λ (even : s % 2 < 1). even_cost s (s / 2) (omega arith) (omega arith))
      (λ (odd : 1 ≤ s % 2). odd_cost s (s / 2) (omega arith) (omega arith))
      (order (s % 2) 1)

-- ---- both halves of the word
module _
    (costs old new : List ℕ)
    (evens odds word : ℕ)
    (all : (k : ℕ) → k < 32 → Merged costs old new evens odds k)
    (low : (k : ℕ) → k < 32 → bit_at word k ≡ bit_at evens k)
    (high : (k : ℕ) → k < 32 → bit_at word (k + 32) ≡ bit_at odds k)
  where
    abbrev choice : ℕ → ℕ → ℕ → Bool
    choice half far near =
        nat_lt (slice_index old (half + 32) + branch_by costs far) (slice_index old half + branch_by costs near)

    even_state : (s k : ℕ) → k < 32 → s ≡ 2 * k → decision_of word s ≡ choice (s / 2) (s + 64) s
    unfolding decision_of
    even_state s k l e =
        let place : decision_place s ≡ k = omega arith in
        let half : s / 2 ≡ k = omega arith in
        let far : s + 64 ≡ 2 * k + 64 = omega arith in
        ap (λ p. nat_eq (bit_at word p) 1) place ∙ ap (λ x. nat_eq x 1) (low k l) ∙ (all k l).even_decided
        ∙ sym (ap (λ h. choice h (s + 64) s) half ∙ ap (λ f. choice k f s) far ∙ ap (choice k (2 * k + 64)) e)

    odd_state : (s k : ℕ) → k < 32 → s ≡ 2 * k + 1 → decision_of word s ≡ choice (s / 2) (s + 64) s
    unfolding decision_of
    odd_state s k l e =
        let place : decision_place s ≡ k + 32 = omega arith in
        let half : s / 2 ≡ k = omega arith in
        let far : s + 64 ≡ 2 * k + 65 = omega arith in
        ap (λ p. nat_eq (bit_at word p) 1) place ∙ ap (λ x. nat_eq x 1) (high k l) ∙ (all k l).odd_decided
        ∙ sym (ap (λ h. choice h (s + 64) s) half ∙ ap (λ f. choice k f s) far ∙ ap (choice k (2 * k + 65)) e)

    pub each_state : (s : ℕ) → s < 64 → decision_of word s ≡ choice (s / 2) (s + 64) s
    each_state s l =
        ⊎_elim
        (λ (even : s % 2 < 1). even_state s (s / 2) (omega arith) (omega arith))
        (λ (odd : 1 ≤ s % 2). odd_state s (s / 2) (omega arith) (omega arith))
        (order (s % 2) 1)
