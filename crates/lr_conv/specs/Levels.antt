-- The levels of a list of bits under a line code, and the bits of a list of levels.
use Rattle.std.specs.Prelude.{not, if◌then◌else◌, Bool, true, false, List, [], ◌∷◌, replicate}
use Rattle.lr_conv.specs.declared.line.LineCode.{LineCode}

-- the level after another one that a 1 changes, and a 0 keeps
abbrev pub changed_by : Bool → Bool → Bool
changed_by true level = not level
changed_by false level = level

-- the level of a bit, after the level before it
abbrev pub level_of : LineCode → Bool → Bool → Bool
level_of line level one = if line.marks then changed_by one level else one

-- the levels of a list of bits of which a 1 is a change of level, after the level before them
abbrev pub marks_of : Bool → List Bool → List Bool
marks_of level [] = []
marks_of level (one ∷ bits) = changed_by one level ∷ marks_of (changed_by one level) bits

-- the levels of a list of bits
abbrev pub levels : LineCode → Bool → List Bool → List Bool
levels line level bits = if line.marks then marks_of level bits else bits

-- the bit of a level, after the level before it
abbrev pub bit_of_level : LineCode → Bool → Bool → Bool
bit_of_level line level next = if line.marks then changed_by level next else next

-- the bits of a list of levels, of which each change is a 1
abbrev pub changes_of_levels : Bool → List Bool → List Bool
changes_of_levels level [] = []
changes_of_levels level (next ∷ rest) = changed_by level next ∷ changes_of_levels next rest

-- the bits of a list of levels
abbrev pub bits_of_levels : LineCode → Bool → List Bool → List Bool
bits_of_levels line level rest = if line.marks then changes_of_levels level rest else rest

-- the last of a list of levels, or the level before it where the list is empty
abbrev pub last_level : Bool → List Bool → Bool
last_level level [] = level
last_level level (next ∷ rest) = last_level next rest

-- the levels before the first bit
abbrev pub six_zeros : List Bool
six_zeros = replicate 6 false
