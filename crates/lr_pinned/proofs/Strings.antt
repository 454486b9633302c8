-- What is read back from the end that costs less, in a trellis with pins, is the nearest path that agrees.
use Rattle.std.proofs.Common.{◌≡◌, ℕ, ℤ, ◌+◌, ◌*◌, ◌<◌, ◌≤◌, ◌++◌, Bool, true, false, ltb}
use Rattle.std.proofs.Common.{List, [], ◌∷◌, length, reverse, arith, ◌∙◌}
use Rattle.std.specs.Prelude.{Option}
use Rattle.lr_conv.specs.Levels.{levels}
use Rattle.lr_conv.specs.declared.line.LineCode.{LineCode}
use Rattle.lr_trellis.specs.Trellis.{branch_of, end_before, is_odd, older_bit, read_back, start_of}
use Rattle.lr_trellis.specs.declared.costs.TheConstants.{STEP_COST}
use Rattle.lr_trellis.proofs.LeastRead.{IsPriced, end_least, read_is_least}
use Rattle.lr_trellis.proofs.OnePath.{IsLeast}
use Rattle.lr_trellis.proofs.Strings.{cut, last_step_of, plain_cost, plain_most}
use Rattle.lr_pinned.specs.Pinned.{misses, pinned_cost}
use Rattle.lr_pinned.specs.Steps.{pinned_branch}
use Rattle.lr_pinned.proofs.Misses.{filled, filled_agrees, length-filled, missed, no_bits_miss, two_parts}

module _ (line : LineCode) (pins : List (Option Bool)) (w : List ℤ) (n : ℕ)
    (most : (i m : ℕ) → i < n + 5 → branch_of line w i m ≤ STEP_COST)
    (last_most : (m : ℕ) → branch_of line w (n + 5) m ≤ STEP_COST) (few : n ≤ 8160) (pinned : length pins ≡ n)
    (long : length w ≡ 2 * n + 12) where
  filled_size : length (filled pins) ≡ n
  filled_size = length-filled pins ∙ pinned

  -- a list that agrees costs less than a miss
  filled_cheap : 0 < n → pinned_cost line pins w (filled pins) ≤ 4148328
  filled_cheap some =
      omega (arith, plain_most line w n some long most last_most (filled pins) filled_size, filled_agrees pins)

  is_priced : 0 < n →
      IsPriced line (pinned_cost line pins w) (pinned_branch line pins w) (last_step_of line w n) n
  is_priced some = record {
    steps = λ y e. omega (
      arith,
      plain_cost line w n some long y e,
      two_parts line pins w (n + 5) (cut line y),
      missed line pins n (omega arith) y e,
    );
    cheap = filled pins;
    cheap_size = filled_size;
    cheap_price = filled_cheap some;
  }

  -- the list of least price misses no pin
  least_agrees : (x : List Bool) → length x ≡ n → IsLeast line (pinned_cost line pins w) x → misses pins x ≡ 0
  least_agrees [] size p = no_bits_miss pins
  least_agrees (b ∷ x) size p =
      let cheap = filled_cheap (omega (arith, size)) in
      let least = p.least (filled pins) (omega (arith, filled_size, size)) in
      omega (arith, cheap, least)

pub record IsFound (line : LineCode) (pins : List (Option Bool)) (w : List ℤ) (x : List Bool) : Type 0 where
  pub agrees : misses pins x ≡ 0
  pub least : IsLeast line (pinned_cost line pins w) x

-- The list that is read back from the end that costs less, by the decisions of the best paths, is the nearest path.
pub read_is_found : (line : LineCode) (pins : List (Option Bool)) (w : List ℤ) (d : ℕ → ℕ → Bool) (n : ℕ)
    (x tail : List Bool) (s1 s0 : ℕ) (l : Bool) →
    ((i s : ℕ) → i < n + 5 → s < 64 → d i s ≡ older_bit (start_of line) (pinned_branch line pins w) i s) →
    ((i m : ℕ) → i < n + 5 → branch_of line w i m ≤ STEP_COST) →
    ((m : ℕ) → branch_of line w (n + 5) m ≤ STEP_COST) → n ≤ 8160 → length pins ≡ n → length w ≡ 2 * n + 12 →
    length x ≡ n → length tail ≡ 5 → s1 < 64 → s0 < 64 →
    l ≡ ltb (end_least line (pinned_branch line pins w) (last_step_of line w n) n true)
    (end_least line (pinned_branch line pins w) (last_step_of line w n) n false) →
    read_back d (n + 5) (end_before line l) ≡ reverse tail ++ read_back d n s1 →
    read_back d n s1 ≡ reverse (levels line (is_odd s0) x) ++ read_back d 0 s0 → IsFound line pins w x
read_is_found line pins w d n x tail s1 s0 l same most last_most few pinned long size five_tail low_1 low_0 chosen
    end_walk data_walk =
    let least =
    read_is_least line (pinned_cost line pins w) (pinned_branch line pins w) (last_step_of line w n) d n x tail s1 s0 l
    same (is_priced line pins w n most last_most few pinned long) size five_tail low_1 low_0 chosen end_walk
    data_walk in
    record { agrees = least_agrees line pins w n most last_most few pinned long x size least; least = least }
