-- The order of the states in their lanes.
use Rattle.std.proofs.Common.{arith, ap, refl, sym, ◌∙◌, ◌≡◌, ◌+◌, ◌-◌, ◌*◌, ◌/◌, ◌%◌, ◌<◌, ◌≤◌, ◌++◌, ℕ, List, length}
use Rattle.std.proofs.Common.{Bool, nat_eq, get_or, slice_index, subst, ⊎_elim}
use Rattle.std.proofs.lemmas.Bool.{eqb-true}
use Rattle.std.proofs.lemmas.List.{length-map}
use Rattle.std.proofs.lemmas.List.FromFn.{length-range_with_len}
use Rattle.std.proofs.Math.ListN.{get_or-append}
use Rattle.std.proofs.str.Laws.{order}
use Rattle.std.proofs.Math.Seq.{get_or-append_right}
use Rattle.std.specs.Prelude.{map}
use Rattle.std.specs.List.{range_with_len}
use Rattle.lr_conv.proofs.SevenBits.{all_below, all_below_at}
use Rattle.lr_lanes.specs.Lanes.{lane_of, in_order}
use Rattle.lr_lanes.proofs.Merging.{low_at, high_at}
use Rattle.lr_lanes.proofs.Placed.{placed}

-- ---- facts of lanes, checked by computing
back_test : ℕ → Bool
back_test s = nat_eq (lane_of (lane_of s)) s

pub back : (s : ℕ) → s < 64 → lane_of (lane_of s) ≡ s
unfolding back_test all_below
back s l = eqb-true _ _ (all_below_at back_test 64 s refl l)

pub lane_below : (s : ℕ) → s < 64 → lane_of s < 64
lane_below s l = omega arith

pub lane_low : (s : ℕ) → s < 32 → lane_of s < 32
lane_low s l = omega arith

pub lane_high : (s : ℕ) → s < 32 → lane_of (s + 32) ≡ lane_of s + 32
lane_high s l = omega arith

-- ---- the lanes in the order of the states
pub length-in_order : (lanes : List ℕ) → length (in_order lanes) ≡ 64
unfolding in_order
length-in_order lanes = length-map (range_with_len 0 64) (λ s. get_or lanes (lane_of s) 0) ∙ length-range_with_len 0 64

pub in_order_at : (lanes : List ℕ) (s : ℕ) → s < 64 → slice_index (in_order lanes) s ≡ slice_index lanes (lane_of s)
unfolding in_order
in_order_at lanes s l = placed (λ s. get_or lanes (lane_of s) 0) 64 s l

-- what the lane of a state holds, from where the states are in order
pub lane_at : (lanes : List ℕ) (j : ℕ) → j < 64 → slice_index lanes j ≡ slice_index (in_order lanes) (lane_of j)
lane_at lanes j l =
    sym (in_order_at lanes (lane_of j) (lane_below j l) ∙ ap (λ k. get_or lanes k 0) (back j l))

-- ---- 32 lanes, each from the lane of its state
unfoldable pub turned_lanes : List ℕ → List ℕ
turned_lanes lanes = map (λ k. get_or (lanes ++ lanes) (lane_of k) 0) (range_with_len 0 32)

pub length-turned_lanes : (lanes : List ℕ) → length (turned_lanes lanes) ≡ 32
unfolding turned_lanes
length-turned_lanes lanes =
    length-map (range_with_len 0 32) (λ k. get_or (lanes ++ lanes) (lane_of k) 0) ∙ length-range_with_len 0 32

pub turned_at : (lanes : List ℕ) → length lanes ≡ 32 → (k : ℕ) → k < 32 →
    get_or (turned_lanes lanes) k 0 ≡ get_or lanes (lane_of k) 0
unfolding turned_lanes
turned_at lanes size k l =
    placed (λ k. get_or (lanes ++ lanes) (lane_of k) 0) 32 k l
    ∙ get_or-append lanes lanes 0 (lane_of k) (omega (arith, size, lane_low k l))

-- both halves of what the lanes hold, each turned: the states in order
module _
    (low high turned_low turned_high : List ℕ)
    (size : length low ≡ 32)
    (turned_size : length turned_low ≡ 32)
    (lows : (k : ℕ) → k < 32 → slice_index turned_low k ≡ slice_index low (lane_of k))
    (highs : (k : ℕ) → k < 32 → slice_index turned_high k ≡ slice_index high (lane_of k))
  where
    low_turned : (s : ℕ) → s < 32 → slice_index (turned_low ++ turned_high) s ≡ slice_index (in_order (low ++ high)) s
    low_turned s l =
        low_at turned_low turned_high turned_size s l ∙ lows s l
        ∙ sym (in_order_at (low ++ high) s (omega arith) ∙ low_at low high size (lane_of s) (lane_low s l))

    high_turned : (k : ℕ) → k < 32 →
        slice_index (turned_low ++ turned_high) (k + 32) ≡ slice_index (in_order (low ++ high)) (k + 32)
    high_turned k l =
        high_at turned_low turned_high turned_size k ∙ highs k l
        ∙ sym (in_order_at (low ++ high) (k + 32) (omega arith) ∙ ap (slice_index (low ++ high)) (lane_high k l)
        ∙ high_at low high size (lane_of k))

    pub turned_in_order : (s : ℕ) → s < 64 →
        slice_index (turned_low ++ turned_high) s ≡ slice_index (in_order (low ++ high)) s
    turned_in_order s l =
        ⊎_elim
        (λ (below : s < 32). low_turned s below)
        (λ (above : 32 ≤ s). let same : s - 32 + 32 ≡ s = omega arith in
        subst (λ z. slice_index (turned_low ++ turned_high) z ≡ slice_index (in_order (low ++ high)) z) same
        (high_turned (s - 32) (omega arith)))
        (order s 32)

-- ---- 32 lanes, twice the same sixteen
unfoldable pub twice : List ℕ → List ℕ
twice lanes = map (λ k. get_or (lanes ++ lanes) (k % 16) 0) (range_with_len 0 32)

pub twice_at : (lanes : List ℕ) → length lanes ≡ 16 → (k : ℕ) → k < 32 →
    get_or (twice lanes) k 0 ≡ get_or lanes (k % 16) 0
unfolding twice
twice_at lanes size k l =
    placed (λ k. get_or (lanes ++ lanes) (k % 16) 0) 32 k l
    ∙ get_or-append lanes lanes 0 (k % 16) (omega (arith, size))

-- ---- all states, from the even ones and the odd ones
-- where the state of a lane stands in the lanes of the even states and then the odd ones
place : ℕ → ℕ
place j = lane_of (lane_of j / 2) + 32 * (lane_of j % 2)

even_test : ℕ → Bool
even_test k = nat_eq (place (lane_of (2 * k))) (lane_of k)

odd_test : ℕ → Bool
odd_test k = nat_eq (place (lane_of (2 * k + 1))) (lane_of k + 32)

even_place : (k : ℕ) → k < 32 → place (lane_of (2 * k)) ≡ lane_of k
unfolding even_test place all_below
even_place k l = eqb-true _ _ (all_below_at even_test 32 k refl l)

odd_place : (k : ℕ) → k < 32 → place (lane_of (2 * k + 1)) ≡ lane_of k + 32
unfolding odd_test place all_below
odd_place k l = eqb-true _ _ (all_below_at odd_test 32 k refl l)

unfoldable pub all_lanes : List ℕ → List ℕ → List ℕ
all_lanes evens odds =
    map (λ j. get_or (evens ++ odds) (lane_of (lane_of j / 2) + 32 * (lane_of j % 2)) 0) (range_with_len 0 64)

pub evens_placed : (evens odds : List ℕ) → length evens ≡ 32 → (k : ℕ) → k < 32 →
    get_or (all_lanes evens odds) (lane_of (2 * k)) 0 ≡ get_or evens (lane_of k) 0
unfolding all_lanes place
evens_placed evens odds size k l =
    placed (λ j. get_or (evens ++ odds) (place j) 0) 64 (lane_of (2 * k)) (lane_below (2 * k) (omega arith))
    ∙ ap (λ p. get_or (evens ++ odds) p 0) (even_place k l)
    ∙ get_or-append evens odds 0 (lane_of k) (omega (arith, size, lane_low k l))

pub odds_placed : (evens odds : List ℕ) → length evens ≡ 32 → (k : ℕ) → k < 32 →
    get_or (all_lanes evens odds) (lane_of (2 * k + 1)) 0 ≡ get_or odds (lane_of k) 0
unfolding all_lanes place
odds_placed evens odds size k l =
    let later : lane_of k + 32 - length evens ≡ lane_of k = omega (arith, size) in
    placed (λ j. get_or (evens ++ odds) (place j) 0) 64 (lane_of (2 * k + 1)) (lane_below (2 * k + 1) (omega arith))
    ∙ ap (λ p. get_or (evens ++ odds) p 0) (odd_place k l)
    ∙ get_or-append_right evens odds (lane_of k + 32) 0 (omega (arith, size))
    ∙ ap (λ p. get_or odds p 0) later
