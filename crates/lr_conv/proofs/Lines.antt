-- The levels of a list with one bit more.
use Rattle.std.proofs.Common.{refl, ap, ◌∙◌, ◌≡◌, ◌<◌, ℕ, zero, suc, Bool, true, false, List, [], ◌∷◌, ◌++◌, length}
use Rattle.std.proofs.Common.{drop, arith, cond}
use Rattle.lr_conv.specs.Levels.{
  bit_of_level,
  changed_by,
  level_of,
  marks_of,
  changes_of_levels,
  levels,
  bits_of_levels,
}
use Rattle.lr_conv.specs.Levels.{last_level}
use Rattle.lr_conv.specs.declared.line.LineCode.{LineCode}

marks_of-append : (level : Bool) (x y : List Bool)
    → marks_of level (x ++ y) ≡ marks_of level x ++ marks_of (last_level level (marks_of level x)) y
marks_of-append level [] y = refl
marks_of-append level (b ∷ x) y = ap (λ z. changed_by b level ∷ z) (marks_of-append (changed_by b level) x y)

by_cases : (m level : Bool) (x y : List Bool)
    → cond m (marks_of level (x ++ y)) (x ++ y) ≡ cond m (marks_of level x) x ++ cond m
    (marks_of (last_level level (cond m (marks_of level x) x)) y) y
by_cases false level x y = refl
by_cases true level x y = marks_of-append level x y

pub levels-append : (line : LineCode) (level : Bool) (x y : List Bool)
    → levels line level (x ++ y) ≡ levels line level x ++ levels line (last_level level (levels line level x)) y
levels-append line level x y = by_cases line.marks level x y

length-marks_of : (level : Bool) (x : List Bool) → length (marks_of level x) ≡ length x
length-marks_of level [] = refl
length-marks_of level (b ∷ x) = omega (arith, length-marks_of (changed_by b level) x)

length_by : (m level : Bool) (x : List Bool) → length (cond m (marks_of level x) x) ≡ length x
length_by false level x = refl
length_by true level x = length-marks_of level x

pub length-levels : (line : LineCode) (level : Bool) (x : List Bool) → length (levels line level x) ≡ length x
length-levels line level x = length_by line.marks level x

one_by : (m level b : Bool) → cond m (marks_of level (b ∷ [])) (b ∷ []) ≡ cond m (changed_by b level) b ∷ []
one_by false level b = refl
one_by true level b = refl

pub levels_one : (line : LineCode) (level b : Bool) → levels line level (b ∷ []) ≡ level_of line level b ∷ []
levels_one line level b = one_by line.marks level b

-- the bits of the levels of bits, and the levels of the bits of levels
changed_back : (level b : Bool) → changed_by level (changed_by b level) ≡ b
changed_back false false = refl
changed_back false true = refl
changed_back true false = refl
changed_back true true = refl

changed_on : (level next : Bool) → changed_by (changed_by level next) level ≡ next
changed_on false false = refl
changed_on false true = refl
changed_on true false = refl
changed_on true true = refl

changes_of-marks : (level : Bool) (x : List Bool) → changes_of_levels level (marks_of level x) ≡ x
changes_of-marks level [] = refl
changes_of-marks level (b ∷ x) = let e = changed_back level b in let r = changes_of-marks (changed_by b level) x in cc

marks_of-changes : (level : Bool) (y : List Bool) → marks_of level (changes_of_levels level y) ≡ y
marks_of-changes level [] = refl
marks_of-changes level (next ∷ y) = let e = changed_on level next in
    ap (λ z. z ∷ marks_of z (changes_of_levels next y)) e ∙ ap (λ z. next ∷ z) (marks_of-changes next y)

bits_by : (m level : Bool) (x : List Bool)
    → cond m (changes_of_levels level (cond m (marks_of level x) x)) (cond m (marks_of level x) x) ≡ x
bits_by false level x = refl
bits_by true level x = changes_of-marks level x

levels_by : (m level : Bool) (y : List Bool)
    → cond m (marks_of level (cond m (changes_of_levels level y) y)) (cond m (changes_of_levels level y) y) ≡ y
levels_by false level y = refl
levels_by true level y = marks_of-changes level y

pub bits_of_levels_of : (line : LineCode) (level : Bool) (x : List Bool)
    → bits_of_levels line level (levels line level x) ≡ x
bits_of_levels_of line level x = bits_by line.marks level x

pub levels_of_bits_of : (line : LineCode) (level : Bool) (y : List Bool)
    → levels line level (bits_of_levels line level y) ≡ y
levels_of_bits_of line level y = levels_by line.marks level y

length-changes_of : (level : Bool) (y : List Bool) → length (changes_of_levels level y) ≡ length y
length-changes_of level [] = refl
length-changes_of level (next ∷ y) = omega (arith, length-changes_of next y)

length_bits_by : (m level : Bool) (y : List Bool) → length (cond m (changes_of_levels level y) y) ≡ length y
length_bits_by false level y = refl
length_bits_by true level y = length-changes_of level y

pub length-bits_of_levels : (line : LineCode) (level : Bool) (y : List Bool)
    → length (bits_of_levels line level y) ≡ length y
length-bits_of_levels line level y = length_bits_by line.marks level y

-- ---- the last level
last_of_some : (a b : Bool) (x : List Bool) → zero < length x → last_level a x ≡ last_level b x
last_of_some a b [] some = absurd (omega arith)
last_of_some a b (c ∷ x) some = refl

pub last_level-drop : (level : Bool) (n : ℕ) (x : List Bool) → n < length x
    → last_level level (drop n x) ≡ last_level level x
last_level-drop level zero x some = refl
last_level-drop level (suc n) [] some = absurd (omega arith)
last_level-drop level (suc n) (a ∷ x) some = last_level-drop level n x (omega arith)
    ∙ last_of_some level a x (omega arith)

-- ---- one level in front of others
cons_by : (m level b : Bool) (x : List Bool)
    → cond m (marks_of level (b ∷ x)) (b ∷ x) ≡ cond m (changed_by b level) b ∷ cond m
    (marks_of (cond m (changed_by b level) b) x) x
cons_by false level b x = refl
cons_by true level b x = refl

pub levels-cons : (line : LineCode) (level b : Bool) (x : List Bool)
    → levels line level (b ∷ x) ≡ level_of line level b ∷ levels line (level_of line level b) x
levels-cons line level b x = cons_by line.marks level b x

nil_by : (m level : Bool) → cond m (marks_of level []) [] ≡ []
nil_by false level = refl
nil_by true level = refl

pub levels-nil : (line : LineCode) (level : Bool) → levels line level [] ≡ []
levels-nil line level = nil_by line.marks level

level_by : (m level next : Bool) → cond m (changed_by (cond m (changed_by level next) next) level)
    (cond m (changed_by level next) next) ≡ next
level_by false level next = refl
level_by true level next = changed_on level next

pub level_of_bit_of : (line : LineCode) (level next : Bool) → level_of line level (bit_of_level line level next) ≡ next
level_of_bit_of line level next = level_by line.marks level next
