-- The words of where the lesser of two vectors is the first, with a bit for each state, where the lanes are turned.
use Rattle.std.proofs.Common.{arith, sym, subst, ◌∙◌, ap, refl, ◌≡◌, ◌<◌, ◌-◌, ◌%◌, ◌^◌, ℕ, Bool, true, false, cond}
use Rattle.std.proofs.Common.{nat_eq, length, get_or, ltb, leb, not, List, zero, suc, ◌+◌, ◌/◌}
use Rattle.std.proofs.lemmas.Nat.{shr-shr}
use Rattle.std.proofs.lemmas.Nat.Bits.{bit_at_ones, bit_at_xor, bit_at-lt}
use Rattle.std.proofs.lemmas.Simd.{tops_compared, length-zip2, get_or-zip2, get_or-replicate, mask_l-mod, mask_l-lt}
use Rattle.std.proofs.lemmas.Simd.{bit_mask_l, get_or-sel_l, length-sel_l}
use Rattle.std.specs.Int.{bit_at}
use Rattle.std.specs.Prelude.{bit_xor, map, replicate}
use lib.Lanes.{zip2, mask_l, sel_l, top}
use lib.Signed.{lt_z}
use mir.Syntax.{w16}
use mir.Val.{to_z}
use Rattle.lr_lanes.specs.Lanes.{lane_of}
use Rattle.lr_lanes.proofs.LaneOrder.{turned_lanes, turned_at, length-turned_lanes, lane_low}
use Rattle.lr_lanes.proofs.Lesser.{first_at, long, not_leb, one_test, tops_are}

-- whether a lane is negative, as one of all ones is
abbrev below : ℕ → ℕ → Bool
below a b = lt_z (to_z w16 a) (to_z w16 b)

mask_below : (t : Bool) → lt_z (to_z w16 (cond t (2 ^ 16 - 1) 0)) (to_z w16 0) ≡ t
mask_below true = refl
mask_below false = refl

not_not : (t : Bool) → not (not t) ≡ t
not_not true = refl
not_not false = refl

leb_not : (a b : ℕ) → leb a b ≡ not (ltb b a)
leb_not a b = sym (ap not (sym (not_leb a b)) ∙ not_not (leb a b))

-- ---- the complement of a word
flipped : (x : ℕ) → x < 2 → nat_eq ((x + 1) % 2) 1 ≡ not (nat_eq x 1)
flipped zero l = refl
flipped (suc zero) l = refl
flipped (suc (suc x)) l = absurd (omega arith)

pub complement_at : (w k : ℕ) → k < 64 → nat_eq (bit_at (bit_xor w (2 ^ 64 - 1)) k) 1 ≡ not (nat_eq (bit_at w k) 1)
complement_at w k l =
    ap (λ x. nat_eq x 1) (bit_at_xor w (2 ^ 64 - 1) k ∙ ap (λ x. (bit_at w k + x) % 2) (bit_at_ones 64 k l))
    ∙ flipped (bit_at w k) (bit_at-lt w k)

module _ (xs ys : List ℕ) (l : length xs ≡ 32) (r : length ys ≡ 32) where
  -- whether the first is at most the second, by the top bits of where it is
  abbrev tops : List Bool
  tops = map (top 15) (zip2 (λ a b. cond (leb a b) (2 ^ 16 - 1) 0) xs ys)

  abbrev compared : List Bool
  compared = zip2 leb xs ys

  -- all ones there
  abbrev chosen : List ℕ
  chosen = sel_l tops (replicate 32 65535) (replicate 32 0)

  compared_size : length compared ≡ 32
  compared_size = long w16 xs ys l r

  chosen_are : chosen ≡ sel_l compared (replicate 32 65535) (replicate 32 0)
  chosen_are = ap (λ t. sel_l t (replicate 32 65535) (replicate 32 0)) (tops_are w16 xs ys l r)

  chosen_size : length chosen ≡ 32
  chosen_size =
      ap length chosen_are ∙ length-sel_l compared (replicate 32 65535) (replicate 32 0) compared_size compared_size
      ∙ compared_size

  chosen_bits : (k : ℕ) → k < 32 → get_or chosen k 0 ≡ cond (leb (get_or xs k 0) (get_or ys k 0)) 65535 0
  chosen_bits k h =
      let n = compared_size in
      ap (λ zs. get_or zs k 0) chosen_are
      ∙ get_or-sel_l compared (replicate 32 65535) (replicate 32 0) k 0 (omega arith) h h
      ∙ ap (λ t. cond t (get_or (replicate 32 65535) k 0) (get_or (replicate 32 0) k 0)) (first_at w16 xs ys l r k h)
      ∙ ap (λ z. cond (leb (get_or xs k 0) (get_or ys k 0)) z (get_or (replicate 32 0) k 0))
      (get_or-replicate 32 k 65535 0 h)
      ∙ ap (cond (leb (get_or xs k 0) (get_or ys k 0)) 65535) (get_or-replicate 32 k 0 0 h)

  -- the same, in the order of the states
  abbrev by_state : List Bool
  by_state = zip2 below (turned_lanes chosen) (replicate 32 0)

  by_state_size : length by_state ≡ 32
  by_state_size =
      length-zip2 below (turned_lanes chosen) (replicate 32 0) (length-turned_lanes chosen)
      ∙ length-turned_lanes chosen

  by_state_at : (k : ℕ) → k < 32 → get_or by_state k false ≡ leb (get_or xs (lane_of k) 0) (get_or ys (lane_of k) 0)
  by_state_at k h =
      get_or-zip2 below (turned_lanes chosen) (replicate 32 0) k 0 0 false
      (omega (arith, length-turned_lanes chosen)) h
      ∙ ap (below (get_or (turned_lanes chosen) k 0)) (get_or-replicate 32 k 0 0 h)
      ∙ ap (λ z. below z 0) (turned_at chosen chosen_size k h ∙ chosen_bits (lane_of k) (lane_low k h))
      ∙ mask_below (leb (get_or xs (lane_of k) 0) (get_or ys (lane_of k) 0))

  abbrev word : ℕ
  word =
      mask_l (map (top 15) (zip2 (λ a b. cond (below a b) (2 ^ 16 - 1) 0) (turned_lanes chosen) (replicate 32 0)))
      % 2 ^ 64

  word_is : word ≡ mask_l by_state
  word_is =
      ap (λ t. mask_l t % 2 ^ 64) (tops_compared w16 below (turned_lanes chosen) (replicate 32 0))
      ∙ mask_l-mod by_state 64 (let n = by_state_size in omega arith)

  pub first_is : (k : ℕ) → k < 32 →
      nat_eq (bit_at word k) 1 ≡ not (ltb (get_or ys (lane_of k) 0) (get_or xs (lane_of k) 0))
  first_is k h =
      ap (λ m. nat_eq (bit_at m k) 1) word_is ∙ ap (λ x. nat_eq x 1)
      (bit_mask_l by_state k ∙ ap (λ t. cond t 1 0) (by_state_at k h)) ∙ one_test _
      ∙ leb_not (get_or xs (lane_of k) 0) (get_or ys (lane_of k) 0)

  pub bound_is : word < 2 ^ 32
  bound_is =
      let n : mask_l by_state < 2 ^ 32 = subst (λ k. mask_l by_state < 2 ^ k) by_state_size (mask_l-lt by_state) in
      omega (arith, word_is)

-- ---- what a word that complements both words of the firsts says of each state
pub high_bit : (all k : ℕ) → bit_at (all / 2 ^ 32) k ≡ bit_at all (k + 32)
high_bit all k =
    let sum : 32 + k ≡ k + 32 = omega arith in
    ap (λ x. x % 2) (shr-shr all 32 k) ∙ ap (bit_at all) sum

pub low_second : (all evens k : ℕ) (t : Bool) → nat_eq (bit_at all k) 1 ≡ not (nat_eq (bit_at evens k) 1) →
    nat_eq (bit_at evens k) 1 ≡ not t → nat_eq (bit_at all k) 1 ≡ t
low_second all evens k t e f = e ∙ ap not f ∙ not_not t

pub high_second : (all odds k : ℕ) (t : Bool) → nat_eq (bit_at all (k + 32)) 1 ≡ not (nat_eq (bit_at odds k) 1) →
    nat_eq (bit_at odds k) 1 ≡ not t → nat_eq (bit_at (all / 2 ^ 32) k) 1 ≡ t
high_second all odds k t e f = ap (λ x. nat_eq x 1) (high_bit all k) ∙ e ∙ ap not f ∙ not_not t
