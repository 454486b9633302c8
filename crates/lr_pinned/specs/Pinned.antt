-- The nearest path of a window among the lists of bits that agree with pins. A pin of a bit is the bit that is known,
-- or none. Without pins it is the nearest path as `lr_trellis` has it.
use Rattle.std.specs.Prelude.{◌≡◌, ℕ, ℤ, ◌+◌, ◌-◌, ◌*◌, ◌/◌, ◌≤◌, if◌then◌else◌, Bool, true, false, Option, Some, None}
use Rattle.std.specs.Prelude.{List, [], ◌∷◌, length, reverse}
use Rattle.lr_conv.specs.declared.line.LineCode.{LineCode}
use Rattle.lr_trellis.specs.Path.{NotAfter, first_least, path_cost, path_levels, path_of_levels}

-- 1 where a bit isn't the known one
abbrev pub miss : Option Bool → Bool → ℕ
miss None one = 0
miss (Some true) one = if one then 0 else 1
miss (Some false) one = if one then 1 else 0

-- how many of the known bits a list of bits doesn't have
abbrev pub misses : List (Option Bool) → List Bool → ℕ
misses [] x = 0
misses (pin ∷ pins) [] = 0
misses (pin ∷ pins) (one ∷ x) = miss pin one + misses pins x

-- a list of bits has each known bit
abbrev pub Agrees : List (Option Bool) → List Bool → Type 0
Agrees pins x = misses pins x ≡ 0

-- It agrees; no list of its length that agrees costs less, and of those that agree and cost the same none has levels
-- before its own, read from the last to the first.
pub record IsPinnedPath (line : LineCode) (pins : List (Option Bool)) (window : List ℤ) (x : List Bool) : Type 0 where
  pub size : length window ≡ 2 * length x + 12
  pub agrees : Agrees pins x
  pub least : (y : List Bool) → length y ≡ length x → Agrees pins y → path_cost line window x ≤ path_cost line window y
  pub first : (y : List Bool) → length y ≡ length x → Agrees pins y →
      path_cost line window y ≡ path_cost line window x →
      NotAfter (reverse (path_levels line x)) (reverse (path_levels line y))

-- what a list of bits costs where each known bit that it doesn't have costs more than any path of 8,166 steps
abbrev pub pinned_cost : LineCode → List (Option Bool) → List ℤ → List Bool → ℕ
pinned_cost line pins window x = path_cost line window x + 4148329 * misses pins x

-- the nearest path that agrees by name
unfoldable pub pinned_path : LineCode → List (Option Bool) → List ℤ → List Bool
pinned_path line pins window =
    path_of_levels line
    (first_least (length window / 2 - 6) (λ y. pinned_cost line pins window (path_of_levels line y)))
