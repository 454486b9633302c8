use Rattle.std.proofs.Common.{ap, sym, refl, ◌∙◌, ◌≡◌, Bool, true, false}
use Rattle.lr_conv.specs.Marker.{tail_of}
use Rattle.lr_conv.specs.declared.line.LineCode.{LineCode}
use Rattle.lr_conv.specs.declared.marker.TheConstants.{MARKER_TAIL, MARKS_TAIL, PLAIN_TAIL, PLAIN_MARKS_TAIL}
use Rattle.lr_conv.proofs.marker.marker_tail.Goals as goal

abbrev line_of : Bool → Bool → LineCode
line_of marks inverted = record { marks = marks; inverted = inverted }

same : (marks inverted m i : Bool) → marks ≡ m → inverted ≡ i → tail_of (line_of m i) ≡ tail_of (line_of marks inverted)
same marks inverted m i e f = ap (λ z. tail_of (line_of z i)) (sym e) ∙ ap (λ z. tail_of (line_of marks z)) (sym f)

pub returns-in-true-true : goal.returns-in-true-true
unfolding tail_of
returns-in-true-true c = let e : MARKS_TAIL ≡ tail_of (line_of true true) = refl in
    e ∙ same c.args.line.marks c.args.line.inverted true true c.in-true-true.is-0 c.in-true-true.is-1

pub returns-in-true-false : goal.returns-in-true-false
unfolding tail_of
returns-in-true-false c = let e : PLAIN_MARKS_TAIL ≡ tail_of (line_of true false) = refl in
    e ∙ same c.args.line.marks c.args.line.inverted true false c.in-true-false.is-0 c.in-true-false.is-1

pub returns-in-false-true : goal.returns-in-false-true
unfolding tail_of
returns-in-false-true c = let e : MARKER_TAIL ≡ tail_of (line_of false true) = refl in
    e ∙ same c.args.line.marks c.args.line.inverted false true c.in-false-true.is-0 c.in-false-true.is-1

pub returns-in-false-false : goal.returns-in-false-false
unfolding tail_of
returns-in-false-false c = let e : PLAIN_TAIL ≡ tail_of (line_of false false) = refl in
    e ∙ same c.args.line.marks c.args.line.inverted false false c.in-false-false.is-0 c.in-false-false.is-1
