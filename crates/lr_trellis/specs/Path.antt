-- The nearest path of a window of symbols under a line code: among all lists of bits of its length the one whose code
-- costs least, and among several the one whose levels are least when they are read from the last to the first. A
-- frame's bits stand between two markers, so the six levels before them and the six bits after them are known.
use Rattle.std.specs.Prelude.{◌≡◌, ℕ, ℤ, pos, negsuc, ◌+◌, ◌-◌, ◌*◌, ◌/◌, ◌≤◌, nat_lt, if◌then◌else◌, zero, suc, Bool}
use Rattle.std.specs.Prelude.{true, false, List, [], ◌∷◌, ◌++◌, length, reverse, map, take, drop}
use Rattle.std.specs.Int.{int_gap}
use Rattle.std.specs.Int.Digits.{number_from_digits}
use Rattle.lr_conv.specs.Convolution.{bit, code}
use Rattle.lr_conv.specs.Levels.{bits_of_levels, levels}
use Rattle.lr_conv.specs.Marker.{last_marker_level, marker_start, marker_end}
use Rattle.lr_conv.specs.Symbols.{symbol_value}
use Rattle.lr_conv.specs.declared.line.LineCode.{LineCode}

-- what a bit costs against a symbol of value v: 127 + v for a 0, and 127 - v for a 1
abbrev pub symbol_cost : Bool → ℤ → ℕ
symbol_cost false symbol = int_gap (negsuc 126) (symbol_value symbol)
symbol_cost true symbol = int_gap (symbol_value symbol) (pos 127)

-- the sum over all places
abbrev pub cost : List Bool → List ℤ → ℕ
cost [] symbols = 0
cost (b ∷ bits) [] = 0
cost (b ∷ bits) (symbol ∷ symbols) = symbol_cost b symbol + cost bits symbols

-- the levels of a list of bits after the marker
abbrev pub path_levels : LineCode → List Bool → List Bool
path_levels line x = levels line (last_marker_level line) x

-- what a list of bits costs against a window
abbrev pub path_cost : LineCode → List ℤ → List Bool → ℕ
path_cost line window x = cost (code line (marker_end line) (path_levels line (x ++ marker_start))) window

-- the first list isn't after the second: where they first differ, it has the 0
abbrev pub NotAfter : List Bool → List Bool → Type 0
NotAfter [] y = Unit {0}
NotAfter (b ∷ x) [] = ⊥
NotAfter (false ∷ x) (false ∷ y) = NotAfter x y
NotAfter (false ∷ x) (true ∷ y) = Unit {0}
NotAfter (true ∷ x) (false ∷ y) = ⊥
NotAfter (true ∷ x) (true ∷ y) = NotAfter x y

-- no list of its length costs less, and of those that cost the same none has levels before its own, read from the last
-- to the first
pub record IsNearestPath (line : LineCode) (window : List ℤ) (x : List Bool) : Type 0 where
  pub size : length window ≡ 2 * length x + 12
  pub least : (y : List Bool) → length y ≡ length x → path_cost line window x ≤ path_cost line window y
  pub first : (y : List Bool) → length y ≡ length x → path_cost line window y ≡ path_cost line window x →
      NotAfter (reverse (path_levels line x)) (reverse (path_levels line y))

-- Of all lists of n bits the first that costs least, in that order: the first that begins with 0, or the first that
-- begins with 1 where it costs less.
unfoldable pub first_least : ℕ → (List Bool → ℕ) → List Bool
first_least zero price = []
first_least (suc n) price =
    let zero_first = false ∷ first_least n (λ x. price (false ∷ x)) in
    let one_first = true ∷ first_least n (λ x. price (true ∷ x)) in
    if nat_lt (price one_first) (price zero_first) then one_first else zero_first

-- the bits of a list of levels after the marker, the last level first
abbrev pub path_of_levels : LineCode → List Bool → List Bool
path_of_levels line y = bits_of_levels line (last_marker_level line) (reverse y)

-- the nearest path of a window by name
unfoldable pub nearest_path : LineCode → List ℤ → List Bool
nearest_path line window =
    path_of_levels line (first_least (length window / 2 - 6) (λ y. path_cost line window (path_of_levels line y)))

-- the bytes of a list of bits, the first bit of each the most significant one
abbrev pub bytes_from : ℕ → List Bool → List ℕ
bytes_from zero bits = []
bytes_from (suc n) bits = number_from_digits 2 (map bit (take 8 bits)) ∷ bytes_from n (drop 8 bits)

unfoldable pub bytes_of_bits : List Bool → List ℕ
bytes_of_bits bits = bytes_from (length bits / 8) bits
