-- What the trellis keeps of a step: four costs, and a word of decisions.
use Rattle.std.specs.Prelude.{◌≡◌, ℕ, ℤ, ◌+◌, ◌*◌, ◌/◌, ◌%◌, ◌<◌, ◌≤◌, ◌==◌, nat_lt, Bool, true, false, List}
use Rattle.std.specs.Prelude.{◌++◌, bit_xor, if◌then◌else◌, length, reverse, slice_index, zero, suc}
use Rattle.std.specs.Int.{bit_at}
use Rattle.lr_conv.specs.Convolution.{bit, first_of_seven, second_of_seven}
use Rattle.lr_conv.specs.Levels.{levels}
use Rattle.lr_conv.specs.declared.line.LineCode.{LineCode}
use Rattle.lr_conv.specs.declared.line.TheConstants.{STANDARD}
use Rattle.lr_trellis.specs.declared.costs.TheConstants.{STEP_COST}
use Rattle.lr_trellis.specs.Path.{bytes_of_bits}
use Rattle.lr_trellis.specs.Trellis.{least_cost, branch_of, end_before, end_seven, is_odd, older_bit, read_back}
use Rattle.lr_trellis.specs.Trellis.{start_of, state_before}

-- the number of the two symbols of seven levels in the standard's code
abbrev pub pair_of : ℕ → ℕ
pair_of m = 2 * bit (first_of_seven m) + bit (second_of_seven STANDARD m)

-- what a step to seven levels costs, by the costs of the four pairs of symbols
unfoldable pub branch_by : List ℕ → ℕ → ℕ
branch_by costs m = slice_index costs (pair_of m)

-- A word has the decisions of the even states in its low half, and those of the odd ones above.
abbrev pub decision_place : ℕ → ℕ
decision_place s = s / 2 + 32 * (s % 2)

unfoldable pub decision_of : ℕ → ℕ → Bool
decision_of word s = bit_at word (decision_place s) == 1

-- the decision of step i at state s
unfoldable pub decisions : List ℕ → ℕ → ℕ → Bool
decisions words i s = decision_of (slice_index words i) s

-- the words have the decisions of the first steps of a window, and the costs are the least ones after them
pub record IsDecided (line : LineCode) (window : List ℤ) (steps : ℕ) (words costs : List ℕ) : Type 0 where
  pub decided : (i s : ℕ) → i < steps → s < 64 →
      decisions words i s ≡ older_bit (start_of line) (branch_of line window) i s
  pub least : (s : ℕ) → s < 64 → slice_index costs s ≡ least_cost (start_of line) (branch_of line window) steps s
  pub most : (i m : ℕ) → i < steps → branch_of line window i m ≤ STEP_COST

-- what a path to one of the two ends costs
abbrev pub end_cost : LineCode → List ℕ → List ℕ → Bool → ℕ
end_cost line costs last one = slice_index costs (end_before line one) + branch_by last (end_seven line one)

-- the level of the last bit: 1 only where that costs less
abbrev pub last_one : LineCode → List ℕ → List ℕ → Bool
last_one line costs last = nat_lt (end_cost line costs last true) (end_cost line costs last false)

-- the state that some steps lead back to from another one, down to the step `first`
abbrev pub state_back : (ℕ → ℕ → Bool) → ℕ → ℕ → ℕ → ℕ
state_back older first zero s = s
state_back older first (suc n) s = state_back older first n (state_before (older (first + n) s) s)

-- The byte of eight levels after an older one: the levels are a number, the newest the least significant one. Where a
-- bit is a change of level, each is compared with the one before it.
abbrev pub byte_of_levels : LineCode → ℕ → ℕ → ℕ
byte_of_levels line newest older = if line.marks then bit_xor newest (newest / 2 + 128 * older) else newest

-- a stretch of a path: its first step, the state after its last step, and the one before its first
pub record Stretch : Type 0 where
  pub first : ℕ
  pub after : ℕ
  pub before : ℕ

-- the bytes are those of some bits, which are read back along this stretch
pub record IsReadBack (line : LineCode) (words : List ℕ) (stretch : Stretch) (bytes : List ℕ) : Type 0 where
  pub bits : List Bool
  pub size : length bits ≡ 8 * length bytes
  pub packed : bytes ≡ bytes_of_bits bits
  pub path : read_back (decisions words) (stretch.first + 8 * length bytes) stretch.after ≡
      reverse (levels line (is_odd stretch.before) bits) ++ read_back (decisions words) stretch.first stretch.before
