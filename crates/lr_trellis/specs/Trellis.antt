-- Paths through a trellis of 64 states, one state for each six last levels. A path is a list of levels, the newest
-- first; its state is the number of its six newest levels, the newest as the least significant one.
use Rattle.std.specs.Prelude.{ℕ, ℤ, pos, ◌+◌, ◌*◌, ◌/◌, ◌%◌, ◌==◌, min, nat_lt, if◌then◌else◌, zero, suc, Bool, List}
use Rattle.std.specs.Prelude.{[], ◌∷◌, slice_index_or}
use Rattle.lr_conv.specs.Convolution.{first_of_seven, second_of_seven}
use Rattle.lr_conv.specs.declared.line.LineCode.{LineCode}
use Rattle.lr_trellis.specs.Path.{symbol_cost}

abbrev pub is_odd : ℕ → Bool
is_odd s = s % 2 == 1

-- the state before s, by whether the older bit that left it was a 1
abbrev pub state_before : Bool → ℕ → ℕ
state_before one s = if one then s / 2 + 32 else s / 2

-- The path of i steps that is read back from s, where `older k t` is the older bit that step k lost on its way to t.
-- Its last six bits are those of the state that it began in.
abbrev pub read_back : (ℕ → ℕ → Bool) → ℕ → ℕ → List Bool
read_back older zero s =
    is_odd s ∷ is_odd (s / 2) ∷ is_odd (s / 4) ∷ is_odd (s / 8) ∷ is_odd (s / 16) ∷ is_odd (s / 32) ∷ []
read_back older (suc i) s = is_odd s ∷ read_back older i (state_before (older i s) s)

-- A path costs `start` of the state that it began in, and `branch k m` for each step k, where m is the number of the
-- seven newest bits after that step.
module _ (start : ℕ → ℕ) (branch : ℕ → ℕ → ℕ) where
  -- the least cost of a path of i steps to the state s
  abbrev pub least_cost : ℕ → ℕ → ℕ
  least_cost zero s = start s
  least_cost (suc i) s = min (least_cost i (s / 2) + branch i s) (least_cost i (s / 2 + 32) + branch i (s + 64))

  -- whether the best path of i + 1 steps to s lost an older bit 1
  abbrev pub older_bit : ℕ → ℕ → Bool
  older_bit i s = nat_lt (least_cost i (s / 2 + 32) + branch i (s + 64)) (least_cost i (s / 2) + branch i s)

  -- the path of i steps that is kept at s
  abbrev pub kept_path : ℕ → ℕ → List Bool
  kept_path = read_back older_bit

-- a path begins in the state of the marker's last levels, 011101 or 101001 for marks; another start costs more than
-- any real path of 8,166 steps, of which each costs 508 at most
abbrev pub start_state : LineCode → ℕ
start_state line = if line.marks then 41 else 29

abbrev pub start_of : LineCode → ℕ → ℕ
start_of line s = if s == start_state line then 0 else 4148329

-- what a step costs against a window
unfoldable pub branch_of : LineCode → List ℤ → ℕ → ℕ → ℕ
branch_of line window i m =
    symbol_cost (first_of_seven m) (slice_index_or window (2 * i) (pos 0))
    + symbol_cost (second_of_seven line m) (slice_index_or window (2 * i + 1) (pos 0))

-- The last step leads from one of two states, by the level of the path's last bit, since the six levels after it are
-- known: the state before the step, and the seven newest levels after it.
abbrev pub end_before : LineCode → Bool → ℕ
end_before line one = if line.marks then (if one then 61 else 2) else (if one then 35 else 3)

abbrev pub end_seven : LineCode → Bool → ℕ
end_seven line one = if line.marks then (if one then 123 else 4) else (if one then 70 else 6)
