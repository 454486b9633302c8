-- The tail of the marker in each line code.
use Rattle.std.proofs.Common.{refl, ◌≡◌, ◌&&◌, Bool, true, false, List, [], ◌∷◌, length, arith, if◌then◌else◌}
use Rattle.std.specs.Prelude.{map, not}
use Rattle.lr_conv.specs.Levels.{last_level}
use Rattle.lr_conv.specs.Marker.{tail_after, tail_of}
use Rattle.lr_conv.specs.declared.line.LineCode.{LineCode}
use Rattle.lr_conv.specs.declared.line.TheConstants.{STANDARD}
use Rattle.lr_conv.specs.declared.marker.TheConstants.{MARKER_TAIL}

abbrev line_of : Bool → Bool → LineCode
line_of marks inverted = record { marks = marks; inverted = inverted }

size_by : (marks inverted : Bool) → length (tail_of (line_of marks inverted)) ≡ 52
unfolding tail_of
size_by false false = refl
size_by false true = refl
size_by true false = refl
size_by true true = refl

pub tail_size : (line : LineCode) → length (tail_of line) ≡ 52
tail_size line = size_by line.marks line.inverted

-- after six levels, of which the first five have no part in it
tail_after_six : (marks inverted a b c d e f : Bool)
    → tail_after (line_of marks inverted) (a ∷ b ∷ c ∷ d ∷ e ∷ f ∷ []) ≡
    (if marks && f then map not (tail_of (line_of marks inverted)) else tail_of (line_of marks inverted))
unfolding tail_of
tail_after_six false false a b c d e f = refl
tail_after_six false true a b c d e f = refl
tail_after_six true false a b c d e false = refl
tail_after_six true false a b c d e true = refl
tail_after_six true true a b c d e false = refl
tail_after_six true true a b c d e true = refl

pub tail_after_any : (line : LineCode) (past : List Bool) → length past ≡ 6
    → tail_after line past ≡ (if line.marks && last_level false past then map not (tail_of line) else tail_of line)
tail_after_any line [] size = absurd (omega arith)
tail_after_any line (a ∷ []) size = absurd (omega arith)
tail_after_any line (a ∷ b ∷ []) size = absurd (omega arith)
tail_after_any line (a ∷ b ∷ c ∷ []) size = absurd (omega arith)
tail_after_any line (a ∷ b ∷ c ∷ d ∷ []) size = absurd (omega arith)
tail_after_any line (a ∷ b ∷ c ∷ d ∷ e ∷ []) size = absurd (omega arith)
tail_after_any line (a ∷ b ∷ c ∷ d ∷ e ∷ f ∷ []) size = tail_after_six line.marks line.inverted a b c d e f
tail_after_any line (a ∷ b ∷ c ∷ d ∷ e ∷ f ∷ g ∷ h) size = absurd (omega arith)

pub standard_tail : MARKER_TAIL ≡ tail_of STANDARD
unfolding tail_of
standard_tail = refl
