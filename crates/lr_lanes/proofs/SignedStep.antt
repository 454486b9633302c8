-- How the lanes of a step are those of its butterflies, where what a step costs is added and taken off.
use Rattle.std.proofs.Common.{arith, ap, refl, sym, ◌∙◌, ◌≡◌, ◌+◌, ◌*◌, ◌%◌, ◌^◌, ◌<◌, ◌≤◌, ◌++◌, ℕ, min, nat_lt}
use Rattle.std.proofs.Common.{Bool, nat_eq, List, length, slice_index, ⊎_elim}
use Rattle.std.proofs.lemmas.Bool.{lt-ltb, le-ltb, eqb-true}
use Rattle.std.proofs.lemmas.List.{get_or-map}
use Rattle.std.proofs.str.Laws.{order}
use Rattle.std.specs.Int.{bit_at}
use Rattle.std.specs.Prelude.{map}
use Rattle.lr_conv.proofs.SevenBits.{all_below, all_below_at}
use Rattle.lr_trellis.specs.Words.{branch_by, pair_of}
use Rattle.lr_trellis.proofs.Butterflies.{Merged}
use Rattle.lr_lanes.specs.Lanes.{HasCosts, in_order, lane_of, lowered, state_of}
use Rattle.lr_lanes.specs.declared.lanes.TheConstants.{HALF_STEP, STEP_COST}
use Rattle.lr_lanes.proofs.LaneOrder.{in_order_at, length-in_order, lane_low, lane_high}
use Rattle.lr_lanes.proofs.Merging.{low_at, high_at, far_up, near_up}

-- ---- sums in sixteen bits: x is a lane with room, w a cost less half of a step's most
sum_is : (x w r c : ℕ) → HALF_STEP ≤ x → x + HALF_STEP < 2 ^ 16 → c ≤ STEP_COST → w ≡ lowered HALF_STEP c →
    r ≡ (x + w) % 2 ^ 16 → r + HALF_STEP ≡ x + c
sum_is x w r c least most cost e f = omega arith

difference_is : (x w r c o : ℕ) → HALF_STEP ≤ x → x + HALF_STEP < 2 ^ 16 → c + o ≡ STEP_COST →
    w ≡ lowered HALF_STEP c → r ≡ lowered w x → r + HALF_STEP ≡ x + o
difference_is x w r c o least most cost e f = omega arith

-- the same number added to both changes no comparison
pub lt_moved : (n x y u v : ℕ) → u ≡ x + n → v ≡ y + n → nat_lt x y ≡ nat_lt u v
lt_moved n x y u v e f =
    ⊎_elim
    (λ (below : x < y). lt-ltb x y below ∙ sym (lt-ltb u v (omega arith)))
    (λ (above : y ≤ x). le-ltb x y above ∙ sym (le-ltb u v (omega arith)))
    (order x y)

-- ---- the lane of costs that a state takes, checked by computing
pair_test : ℕ → Bool
pair_test k = nat_eq (pair_of (2 * state_of (lane_of k % 16))) (pair_of (2 * k))

same_pair : (k : ℕ) → k < 32 → pair_of (2 * state_of (lane_of k % 16)) ≡ pair_of (2 * k)
unfolding pair_test all_below
same_pair k l = eqb-true _ _ (all_below_at pair_test 32 k refl l)

-- the lanes of all states, in order and each raised by half of a step's most
pub raised : List ℕ → List ℕ
raised lanes = map (λ x. x + HALF_STEP) (in_order lanes)

pub raised_at : (lanes : List ℕ) (s : ℕ) → s < 64 →
    slice_index (raised lanes) s ≡ slice_index (in_order lanes) s + HALF_STEP
unfolding raised
raised_at lanes s l =
    get_or-map (λ x. x + HALF_STEP) (in_order lanes) s 0 0 (let size = length-in_order lanes in omega arith)

module _
    (pairs costs low high wide a b d e evens odds new : List ℕ)
    (even_word odd_word : ℕ)
    (size : length low ≡ 32)
    (held : HasCosts costs pairs)
    (least : (s : ℕ) → s < 64 → HALF_STEP ≤ slice_index (low ++ high) s)
    (most : (s : ℕ) → s < 64 → slice_index (low ++ high) s + HALF_STEP < 2 ^ 16)
    (wide_is : (k : ℕ) → k < 32 → slice_index wide k ≡ slice_index costs (k % 16))
    (a_is : (k : ℕ) → k < 32 → slice_index a k ≡ (slice_index low k + slice_index wide k) % 2 ^ 16)
    (b_is : (k : ℕ) → k < 32 → slice_index b k ≡ lowered (slice_index wide k) (slice_index high k))
    (d_is : (k : ℕ) → k < 32 → slice_index d k ≡ lowered (slice_index wide k) (slice_index low k))
    (e_is : (k : ℕ) → k < 32 → slice_index e k ≡ (slice_index high k + slice_index wide k) % 2 ^ 16)
    (even_least : (k : ℕ) → k < 32 → slice_index evens k ≡ min (slice_index a k) (slice_index b k))
    (even_second : (k : ℕ) → k < 32 →
    nat_eq (bit_at even_word k) 1 ≡ nat_lt (slice_index b (lane_of k)) (slice_index a (lane_of k)))
    (odd_least : (k : ℕ) → k < 32 → slice_index odds k ≡ min (slice_index d k) (slice_index e k))
    (odd_second : (k : ℕ) → k < 32 →
    nat_eq (bit_at odd_word k) 1 ≡ nat_lt (slice_index e (lane_of k)) (slice_index d (lane_of k)))
    (even_at : (k : ℕ) → k < 32 → slice_index new (lane_of (2 * k)) ≡ slice_index evens (lane_of k))
    (odd_at : (k : ℕ) → k < 32 → slice_index new (lane_of (2 * k + 1)) ≡ slice_index odds (lane_of k))
  where
    abbrev old : List ℕ
    old = in_order (low ++ high)

    module _ (k : ℕ) (l : k < 32) where
      abbrev p : ℕ
      p = lane_of k

      here : lane_of k < 32
      here = lane_low k l

      low_is : slice_index (in_order (low ++ high)) k ≡ slice_index low (lane_of k)
      low_is = in_order_at (low ++ high) k (omega arith) ∙ low_at low high size (lane_of k) here

      high_is : slice_index (in_order (low ++ high)) (k + 32) ≡ slice_index high (lane_of k)
      high_is =
          in_order_at (low ++ high) (k + 32) (omega arith) ∙ ap (slice_index (low ++ high)) (lane_high k l)
          ∙ high_at low high size (lane_of k)

      low_least : HALF_STEP ≤ slice_index low (lane_of k)
      low_least = omega (arith, low_at low high size (lane_of k) here, least (lane_of k) (omega (arith, here)))

      low_most : slice_index low (lane_of k) + HALF_STEP < 2 ^ 16
      low_most = omega (arith, low_at low high size (lane_of k) here, most (lane_of k) (omega (arith, here)))

      high_least : HALF_STEP ≤ slice_index high (lane_of k)
      high_least = omega (arith, high_at low high size (lane_of k), least (lane_of k + 32) (omega (arith, here)))

      high_most : slice_index high (lane_of k) + HALF_STEP < 2 ^ 16
      high_most = omega (arith, high_at low high size (lane_of k), most (lane_of k + 32) (omega (arith, here)))

      cost_is : slice_index wide (lane_of k) ≡ lowered HALF_STEP (branch_by pairs (2 * k))
      unfolding branch_by
      cost_is =
          wide_is (lane_of k) here ∙ held.held (lane_of k % 16) (omega arith)
          ∙ ap (λ q. lowered HALF_STEP (slice_index pairs q)) (same_pair k l)

      a_cost : slice_index a (lane_of k) + HALF_STEP ≡ slice_index old k + branch_by pairs (2 * k)
      a_cost =
          sum_is (slice_index low (lane_of k)) (slice_index wide (lane_of k)) (slice_index a (lane_of k))
          (branch_by pairs (2 * k)) low_least low_most (held.most (2 * k)) cost_is (a_is (lane_of k) here)
          ∙ ap (λ x. x + branch_by pairs (2 * k)) (sym low_is)

      b_cost : slice_index b (lane_of k) + HALF_STEP ≡ slice_index old (k + 32) + branch_by pairs (2 * k + 64)
      b_cost =
          difference_is (slice_index high (lane_of k)) (slice_index wide (lane_of k)) (slice_index b (lane_of k))
          (branch_by pairs (2 * k)) (branch_by pairs (2 * k + 1)) high_least high_most (held.sums k l) cost_is
          (b_is (lane_of k) here)
          ∙ ap (λ x. x + branch_by pairs (2 * k + 1)) (sym high_is)
          ∙ ap (λ x. slice_index old (k + 32) + x) (far_up pairs k l)

      d_cost : slice_index d (lane_of k) + HALF_STEP ≡ slice_index old k + branch_by pairs (2 * k + 1)
      d_cost =
          difference_is (slice_index low (lane_of k)) (slice_index wide (lane_of k)) (slice_index d (lane_of k))
          (branch_by pairs (2 * k)) (branch_by pairs (2 * k + 1)) low_least low_most (held.sums k l) cost_is
          (d_is (lane_of k) here)
          ∙ ap (λ x. x + branch_by pairs (2 * k + 1)) (sym low_is)

      e_cost : slice_index e (lane_of k) + HALF_STEP ≡ slice_index old (k + 32) + branch_by pairs (2 * k + 65)
      e_cost =
          sum_is (slice_index high (lane_of k)) (slice_index wide (lane_of k)) (slice_index e (lane_of k))
          (branch_by pairs (2 * k)) high_least high_most (held.most (2 * k)) cost_is (e_is (lane_of k) here)
          ∙ ap (λ x. x + branch_by pairs (2 * k)) (sym high_is)
          ∙ ap (λ x. slice_index old (k + 32) + x) (near_up pairs k l)

      new_even : slice_index (raised new) (2 * k) ≡ slice_index evens (lane_of k) + HALF_STEP
      new_even =
          raised_at new (2 * k) (omega arith)
          ∙ ap (λ x. x + HALF_STEP) (in_order_at new (2 * k) (omega arith) ∙ even_at k l)

      new_odd : slice_index (raised new) (2 * k + 1) ≡ slice_index odds (lane_of k) + HALF_STEP
      new_odd =
          raised_at new (2 * k + 1) (omega arith)
          ∙ ap (λ x. x + HALF_STEP) (in_order_at new (2 * k + 1) (omega arith) ∙ odd_at k l)

      pub merged : Merged pairs (in_order (low ++ high)) (raised new) even_word odd_word k
      merged = record {
        even = omega (arith, new_even, even_least (lane_of k) here, a_cost, b_cost);
        odd = omega (arith, new_odd, odd_least (lane_of k) here, d_cost, e_cost);
        even_decided = even_second k l
            ∙ lt_moved HALF_STEP (slice_index b (lane_of k)) (slice_index a (lane_of k)) _ _ (sym b_cost) (sym a_cost);
        odd_decided = odd_second k l
            ∙ lt_moved HALF_STEP (slice_index e (lane_of k)) (slice_index d (lane_of k)) _ _ (sym e_cost) (sym d_cost);
      }
