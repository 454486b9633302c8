-- How the lanes of a step are those of its butterflies, whatever their width.
use Rattle.std.proofs.Common.{arith, ap, refl, sym, subst, ◌∙◌, ◌≡◌, ◌+◌, ◌-◌, ◌*◌, ◌<◌, ◌≤◌, ◌++◌, ℕ, min, nat_lt}
use Rattle.std.proofs.Common.{nat_eq, List, length, get_or, slice_index, ⊎_elim}
use Rattle.std.proofs.str.Laws.{order}
use Rattle.std.specs.Int.{bit_at}
use Rattle.std.proofs.Math.ListN.{get_or-append}
use Rattle.std.proofs.Math.Seq.{get_or-append_right}
use Rattle.lr_lanes.specs.declared.lanes.TheConstants.{STEP_COST}
use Rattle.lr_trellis.specs.Words.{branch_by}
use Rattle.lr_trellis.proofs.Butterflies.{Merged}
use Rattle.lr_trellis.proofs.Words.{next_is, upper_is, both_is}

module _ (low high : List ℕ) (size : length low ≡ 32) where
  pub low_at : (k : ℕ) → k < 32 → get_or (low ++ high) k 0 ≡ get_or low k 0
  low_at k l = get_or-append low high 0 k (omega arith)

  pub high_at : (k : ℕ) → get_or (low ++ high) (k + 32) 0 ≡ get_or high k 0
  high_at k =
      let same : k + 32 - length low ≡ k = omega arith in get_or-append_right low high (k + 32) 0 (omega arith)
      ∙ ap (λ p. get_or high p 0) same

  pub low_small : (limit : ℕ) → ((s : ℕ) → s < 64 → get_or (low ++ high) s 0 + STEP_COST < limit) → (k : ℕ) → k < 32 →
      get_or low k 0 + STEP_COST < limit
  low_small limit old k l = subst (λ x. x + STEP_COST < limit) (low_at k l) (old k (omega arith))

  pub high_small : (limit : ℕ) → ((s : ℕ) → s < 64 → get_or (low ++ high) s 0 + STEP_COST < limit) → (k : ℕ) → k < 32 →
      get_or high k 0 + STEP_COST < limit
  high_small limit old k l = subst (λ x. x + STEP_COST < limit) (high_at k) (old (k + 32) (omega arith))

-- the costs of a butterfly
module _ (costs : List ℕ) (k : ℕ) (l : k < 32) where
  pub far_up : branch_by costs (2 * k + 1) ≡ branch_by costs (2 * k + 64)
  unfolding branch_by
  far_up = ap (λ p. get_or costs p 0) (sym (next_is k l) ∙ upper_is k l)

  pub near_up : branch_by costs (2 * k) ≡ branch_by costs (2 * k + 65)
  unfolding branch_by
  near_up = ap (λ p. get_or costs p 0) (both_is k l)

module _
    (costs low high near far a b d e evens odds new : List ℕ)
    (even_word odd_word : ℕ)
    (size : length low ≡ 32)
    (near_is : (k : ℕ) → k < 32 → slice_index near k ≡ branch_by costs (2 * k))
    (far_is : (k : ℕ) → k < 32 → slice_index far k ≡ branch_by costs (2 * k + 1))
    (a_is : (k : ℕ) → k < 32 → slice_index a k ≡ slice_index low k + slice_index near k)
    (b_is : (k : ℕ) → k < 32 → slice_index b k ≡ slice_index high k + slice_index far k)
    (d_is : (k : ℕ) → k < 32 → slice_index d k ≡ slice_index low k + slice_index far k)
    (e_is : (k : ℕ) → k < 32 → slice_index e k ≡ slice_index high k + slice_index near k)
    (even_least : (k : ℕ) → k < 32 → slice_index evens k ≡ min (slice_index a k) (slice_index b k))
    (even_second : (k : ℕ) → k < 32 → nat_eq (bit_at even_word k) 1 ≡ nat_lt (slice_index b k) (slice_index a k))
    (odd_least : (k : ℕ) → k < 32 → slice_index odds k ≡ min (slice_index d k) (slice_index e k))
    (odd_second : (k : ℕ) → k < 32 → nat_eq (bit_at odd_word k) 1 ≡ nat_lt (slice_index e k) (slice_index d k))
    (even_at : (k : ℕ) → k < 32 → slice_index new (2 * k) ≡ slice_index evens k)
    (odd_at : (k : ℕ) → k < 32 → slice_index new (2 * k + 1) ≡ slice_index odds k)
  where
    abbrev old : List ℕ
    old = low ++ high

    a_cost : (k : ℕ) → k < 32 → slice_index a k ≡ slice_index (low ++ high) k + branch_by costs (2 * k)
    a_cost k l = a_is k l ∙ rw (low_at low high size k l, near_is k l) refl

    b_cost : (k : ℕ) → k < 32 → slice_index b k ≡ slice_index (low ++ high) (k + 32) + branch_by costs (2 * k + 64)
    b_cost k l = b_is k l ∙ rw (high_at low high size k, far_is k l, far_up costs k l) refl

    d_cost : (k : ℕ) → k < 32 → slice_index d k ≡ slice_index (low ++ high) k + branch_by costs (2 * k + 1)
    d_cost k l = d_is k l ∙ rw (low_at low high size k l, far_is k l) refl

    e_cost : (k : ℕ) → k < 32 → slice_index e k ≡ slice_index (low ++ high) (k + 32) + branch_by costs (2 * k + 65)
    e_cost k l = e_is k l ∙ rw (high_at low high size k, near_is k l, near_up costs k l) refl

    pub merged : (k : ℕ) → k < 32 → Merged costs (low ++ high) new even_word odd_word k
    merged k l = record {
      even = even_at k l ∙ even_least k l ∙ rw (a_cost k l, b_cost k l) refl;
      odd = odd_at k l ∙ odd_least k l ∙ rw (d_cost k l, e_cost k l) refl;
      even_decided = even_second k l ∙ rw (a_cost k l, b_cost k l) refl;
      odd_decided = odd_second k l ∙ rw (d_cost k l, e_cost k l) refl;
    }

-- what holds of the lanes of both halves, side by side
module _
    (R : ℕ → ℕ → Type 0)
    (low high new_low new_high : List ℕ)
    (size : length low ≡ 32)
    (new_size : length new_low ≡ 32)
    (lows : (k : ℕ) → k < 32 → R (slice_index low k) (slice_index new_low k))
    (highs : (k : ℕ) → k < 32 → R (slice_index high k) (slice_index new_high k))
  where
    abbrev Both : ℕ → Type 0
    Both s = R (slice_index (low ++ high) s) (slice_index (new_low ++ new_high) s)

    from_low : (s : ℕ) → s < 32 → Both s
    from_low s l =
        subst (λ x. R x (slice_index (new_low ++ new_high) s)) (sym (low_at low high size s l))
        (subst (R (slice_index low s)) (sym (low_at new_low new_high new_size s l)) (lows s l))

    from_high : (k : ℕ) → k < 32 → Both (k + 32)
    from_high k l =
        subst (λ x. R x (slice_index (new_low ++ new_high) (k + 32))) (sym (high_at low high size k))
        (subst (R (slice_index high k)) (sym (high_at new_low new_high new_size k)) (highs k l))

    pub both_halves : (s : ℕ) → s < 64 → R (slice_index (low ++ high) s) (slice_index (new_low ++ new_high) s)
    both_halves s l =
        ⊎_elim
        (λ (below : s < 32). from_low s below)
        (λ (above : 32 ≤ s). let same : s - 32 + 32 ≡ s = omega arith in
        subst Both same (from_high (s - 32) (omega arith)))
        (order s 32)
