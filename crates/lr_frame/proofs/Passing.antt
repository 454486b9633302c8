-- Outcomes after several passes, and those of one.
use Rattle.std.proofs.Common.{◌≡◌, ◌∙◌, ℕ, ℤ, ◌≤◌, List, [], ◌∷◌, map, refl, arith}
use Rattle.lr_bits.specs.declared.outcome.Corrected.{Corrected}
use Rattle.lr_bits.specs.declared.outcome.Outcome.{Outcome}
use Rattle.lr_bits.specs.declared.outcome.Outcome.TheVariants.{Restored}
use Rattle.lr_conv.specs.Marker.{tail_of}
use Rattle.lr_conv.specs.Passes.{number_of}
use Rattle.lr_conv.specs.declared.line.LineCode.{LineCode}
use Rattle.lr_conv.specs.declared.passes.Passes.{Passes}
use Rattle.lr_conv.specs.declared.passes.Passes.TheVariants.{One, Two, Three, Four}
use Rattle.lr_lock.specs.FramesOf.{frames_of}
use Rattle.lr_lock.specs.Windows.{window_of}
use Rattle.lr_lock.specs.declared.frame.Frame.{Frame}
use Rattle.lr_redecode.proofs.First.{one_pass}
use Rattle.lr_redecode.proofs.Staying.{restored_stays}
use Rattle.lr_frame.specs.Outcomes.{outcome_in, outcome_of_window, outcomes_of_symbols, redecoded_in}
use Rattle.lr_frame.specs.Outcomes.{redecoded_outcome, redecoded_outcomes}

pub one_pass_of : (line : LineCode) (w : List ℤ) → redecoded_outcome line One w ≡ outcome_of_window line w
unfolding redecoded_outcome outcome_of_window
one_pass_of line w = one_pass line w

map_same : (f g : Frame → Outcome) → ((frame : Frame) → f frame ≡ g frame) → (frames : List Frame) →
    map f frames ≡ map g frames
map_same f g same [] = refl
map_same f g same (frame ∷ frames) = let here = same frame in let rest = map_same f g same frames in cc

pub one_pass_of_all : (line : LineCode) (symbols : List ℤ) →
    redecoded_outcomes line One symbols ≡ outcomes_of_symbols line symbols
unfolding redecoded_outcomes outcomes_of_symbols
one_pass_of_all line symbols =
    map_same (redecoded_in line One symbols) (outcome_in line symbols)
    (λ frame. one_pass_of line (window_of symbols frame.place frame.positive)) (frames_of (tail_of line) symbols)

one_at_least : (passes : Passes) → 1 ≤ number_of passes
one_at_least One = omega arith
one_at_least Two = omega arith
one_at_least Three = omega arith
one_at_least Four = omega arith

pub restored_stay : (line : LineCode) (passes : Passes) (w : List ℤ) (frame : List ℕ) (corrected : Corrected) →
    outcome_of_window line w ≡ Restored corrected frame → redecoded_outcome line passes w ≡ Restored corrected frame
unfolding redecoded_outcome outcome_of_window
restored_stay line passes w frame corrected e =
    restored_stays line w 1 (number_of passes) frame corrected (one_pass line w ∙ e) (one_at_least passes)
