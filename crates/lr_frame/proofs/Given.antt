-- The outcomes of the frames that a lock gave.
use Rattle.std.proofs.Common.{◌≡◌, ◌+◌, ◌≤◌, ℤ, None, List, [], ◌∷◌, ◌++◌, length, map, refl, ◌∙◌, ap}
use Rattle.std.proofs.lemmas.List.Elements.{All-head, All-tail}
use Rattle.std.specs.List.{All}
use Rattle.lr_bits.specs.declared.outcome.Outcome.{Outcome}
use Rattle.lr_conv.proofs.Tails.{tail_size}
use Rattle.lr_conv.specs.Marker.{tail_of}
use Rattle.lr_conv.specs.declared.line.LineCode.{LineCode}
use Rattle.lr_conv.specs.declared.passes.Passes.{Passes}
use Rattle.lr_lock.specs.Frames.{AreFrames, AreNext}
use Rattle.lr_lock.specs.FramesOf.{frames_of}
use Rattle.lr_lock.specs.declared.frame.Frame.{Frame}
use Rattle.lr_lock.specs.declared.sizes.TheConstants.{WINDOW_END}
use Rattle.lr_lock.proofs.Existing.{frames_of-are, frames_once, given_are_prefix}
use Rattle.lr_lock.proofs.Staying.{window_stays}
use Rattle.lr_frame.specs.Outcomes.{outcome_in, outcomes_of_symbols}
use Rattle.lr_frame.specs.Outcomes.{redecoded_in, redecoded_outcome, redecoded_outcomes}

map-append : (f : Frame → Outcome) (frames more : List Frame) → map f (frames ++ more) ≡ map f frames ++ map f more
map-append f [] more = refl
map-append f (frame ∷ frames) more = ap (λ (rest : List Outcome). f frame ∷ rest) (map-append f frames more)

-- the definition by its parts
pub outcomes_are : (line : LineCode) (passes : Passes) (symbols : List ℤ) →
    redecoded_outcomes line passes symbols ≡ map (redecoded_in line passes symbols) (frames_of (tail_of line) symbols)
unfolding redecoded_outcomes
outcomes_are line passes symbols = refl

pub first_outcomes : (line : LineCode) (passes : Passes) (symbols : List ℤ) (given : List Frame) →
    AreNext (tail_of line) symbols None given →
    (rest : List Outcome) ×
    (redecoded_outcomes line passes symbols ≡ map (redecoded_in line passes symbols) given ++ rest)
unfolding redecoded_outcomes
first_outcomes line passes symbols given h =
    let front : (rest : List Frame) × (frames_of (tail_of line) symbols ≡ given ++ rest) =
    given_are_prefix (tail_of line) symbols given (tail_size line) h in (
      map (redecoded_in line passes symbols) front.0,
      ap (map (redecoded_in line passes symbols)) front.1 ∙ map-append (redecoded_in line passes symbols) given front.0,
    )

pub all_outcomes : (line : LineCode) (passes : Passes) (symbols : List ℤ) (given : List Frame) →
    AreFrames (tail_of line) symbols given →
    redecoded_outcomes line passes symbols ≡ map (redecoded_in line passes symbols) given
unfolding redecoded_outcomes
all_outcomes line passes symbols given h =
    ap (map (redecoded_in line passes symbols)) (frames_once (tail_of line) symbols _ given (tail_size line)
    (frames_of-are (tail_of line) symbols) h)

-- the same of one pass
pub all_plain : (line : LineCode) (symbols : List ℤ) (given : List Frame) → AreFrames (tail_of line) symbols given →
    outcomes_of_symbols line symbols ≡ map (outcome_in line symbols) given
unfolding outcomes_of_symbols
all_plain line symbols given h =
    ap (map (outcome_in line symbols)) (frames_once (tail_of line) symbols _ given (tail_size line)
    (frames_of-are (tail_of line) symbols) h)

-- the symbols of the frame's window are there
abbrev Covers : List ℤ → Frame → Type 0
Covers symbols frame = frame.place + WINDOW_END ≤ length symbols

pub outcomes_stay : (line : LineCode) (passes : Passes) (symbols more : List ℤ) (frames : List Frame) →
    All (λ frame. frame.place + WINDOW_END ≤ length symbols) frames →
    map (redecoded_in line passes (symbols ++ more)) frames ≡ map (redecoded_in line passes symbols) frames
outcomes_stay line passes symbols more [] h = refl
outcomes_stay line passes symbols more (frame ∷ frames) h =
    ap (λ (o : Outcome). o ∷ map (redecoded_in line passes (symbols ++ more)) frames)
    (ap (redecoded_outcome line passes) (window_stays symbols more frame.place frame.positive
    (All-head (Covers symbols) frame frames h))) ∙
    ap (λ (rest : List Outcome). redecoded_in line passes symbols frame ∷ rest)
    (outcomes_stay line passes symbols more frames (All-tail (Covers symbols) frame frames h))
