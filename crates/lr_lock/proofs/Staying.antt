-- Windows of a longer list.
use Rattle.std.proofs.Common.{◌≡◌, ℕ, zero, suc, ◌+◌, ◌<◌, ◌≤◌, Bool, ℤ, pos, List, [], ◌∷◌, ◌++◌, map, length, refl}
use Rattle.std.proofs.Common.{◌∙◌, ap, arith}
use Rattle.std.proofs.lemmas.List.{get_or_append_left}
use Rattle.std.proofs.lemmas.List.Elements.{All-head, All-tail}
use Rattle.std.specs.List.{range_with_len, All}
use Rattle.lr_bits.specs.declared.sizes.TheConstants.{WINDOW_SYMBOLS}
use Rattle.lr_conv.specs.declared.line.LineCode.{LineCode}
use Rattle.lr_conv.specs.declared.marker.TheConstants.{MARKER_SYMBOLS}
use Rattle.lr_conv.specs.declared.passes.Passes.{Passes}
use Rattle.lr_lock.specs.Windows.{WindowView, window_view, window_of, window_value, turned_value}
use Rattle.lr_lock.specs.declared.frame.Frame.{Frame}
use Rattle.lr_lock.specs.declared.sizes.TheConstants.{WINDOW_END}

map_within : (f g : ℕ → ℤ) (first n : ℕ) → ((k : ℕ) → first ≤ k → k < first + n → f k ≡ g k) →
    map f (range_with_len first n) ≡ map g (range_with_len first n)
map_within f g first zero same = refl
map_within f g first (suc n) same =
    ap (λ y. y ∷ map f (range_with_len (first + 1) n)) (same first (omega arith) (omega arith)) ∙
    ap (λ ys. g first ∷ ys) (map_within f g (first + 1) n (λ k a b. same k (omega arith) (omega arith)))

pub window_stays : (symbols more : List ℤ) (place : ℕ) (positive : Bool) → place + WINDOW_END ≤ length symbols →
    window_of (symbols ++ more) place positive ≡ window_of symbols place positive
unfolding window_of
window_stays symbols more place positive h =
    map_within (window_value (symbols ++ more) place positive) (window_value symbols place positive) 0 WINDOW_SYMBOLS
    (λ k a b. ap (turned_value positive) (get_or_append_left symbols more (pos 0) (place + MARKER_SYMBOLS + k)
    (omega arith)))

-- the symbols of the frame's window are there
abbrev Covers : List ℤ → Frame → Type 0
Covers symbols frame = frame.place + WINDOW_END ≤ length symbols

shown_stays : (line : LineCode) (passes : Passes) (symbols more : List ℤ) (frame : Frame) →
    frame.place + WINDOW_END ≤ length symbols →
    window_view line passes (symbols ++ more) frame ≡ window_view line passes symbols frame
shown_stays line passes symbols more frame h =
    let made : List ℤ → WindowView =
    λ (s : List ℤ). record {
      position = frame.place;
      positive = frame.positive;
      line = line;
      passes = passes;
      symbols = s;
    } in
    ap made (window_stays symbols more frame.place frame.positive h)

pub all_shown_stay : (line : LineCode) (passes : Passes) (symbols more : List ℤ) (frames : List Frame) →
    All (λ frame. frame.place + WINDOW_END ≤ length symbols) frames →
    map (window_view line passes (symbols ++ more)) frames ≡ map (window_view line passes symbols) frames
all_shown_stay line passes symbols more [] h = refl
all_shown_stay line passes symbols more (frame ∷ frames) h =
    ap (λ (s : WindowView). s ∷ map (window_view line passes (symbols ++ more)) frames)
    (shown_stays line passes symbols more frame (All-head (Covers symbols) frame frames h)) ∙
    ap (λ (rest : List WindowView). window_view line passes symbols frame ∷ rest)
    (all_shown_stay line passes symbols more frames (All-tail (Covers symbols) frame frames h))
