-- The strips of images that are coded without loss.
use Rattle.std.proofs.Common.{◌≡◌, ◌<◌, ◌≤◌, ◌+◌, ◌-◌, ◌^◌, min, ℕ, zero, suc, List, [], ◌∷◌, length, All}
use Rattle.std.proofs.Common.{Result, Ok, Err, inl, inr, refl, sym, subst, arith, drop}
use Rattle.std.proofs.lemmas.List.{length-drop}
use Rattle.std.proofs.lemmas.List.Elements.{All-nil, All-cons, All-head, All-tail}
use Rattle.lr_headers.specs.declared.fields.Structure.{Structure}
use Rattle.lr_headers.specs.declared.fields.Lossless.{Lossless}
use Rattle.lr_image.specs.declared.fault.ImageFault.{ImageFault}
use Rattle.lr_image.specs.Pieces.{GiveLines, PiecesFail, pieces_after, piece_with}
use Rattle.lr_image.specs.Images.{line_form}
use Rattle.lr_image.specs.Shapes.{IsCoding, IsSize}
use Rattle.lr_image.proofs.LineLemmas.{no_lines}
use Rattle.lr_render.specs.Making.{StripsMake}
use Rattle.lr_render.specs.Standing.{IsStripOf, all_lines}
use Rattle.lr_render.specs.Strips.{IsStrip}
use Rattle.lr_render.specs.Tiling.{coded_strip, coded_strips}

-- what these pieces give or lack
abbrev pub PiecesMake : Structure → Lossless → (number done wanted : ℕ) → List (List ℕ)
    → Result (List ℕ) ImageFault → Type 0
PiecesMake s l number done wanted pieces (Ok pixels) = GiveLines (line_form s l) l.lines wanted pieces pixels
PiecesMake s l number done wanted pieces (Err fault) =
    PiecesFail (line_form s l) l.lines (record { number = number; done = done; wanted = wanted }) pieces fault

-- what the strips of the pieces make, the pieces do
pub coded_make : (s : Structure) (l : Lossless) (number done wanted : ℕ) (pieces : List (List ℕ))
    (outcome : Result (List ℕ) ImageFault) → done + wanted ≡ s.lines
    → StripsMake s number done (coded_strips s l wanted pieces) outcome
    → PiecesMake s l number done wanted pieces outcome
coded_make s l number done zero pieces (Ok pixels) all make =
    subst (λ (p : List ℕ). GiveLines (line_form s l) l.lines 0 pieces p) (sym make.1)
    (no_lines (line_form s l) l.lines pieces)
coded_make s l number done zero pieces (Err fault) all make = absurd (omega (arith, make.0))
coded_make s l number done (suc wanted) [] (Ok pixels) all make = absurd (omega (arith, make.0))
coded_make s l number done (suc wanted) [] (Err fault) all make =
    record { some = omega arith; is_fault = make.1 }
coded_make s l number done (suc wanted) (piece ∷ pieces) (Ok pixels) all make = record {
  front = make.front;
  begins = make.gives;
  back = make.back;
  others = coded_make s l (number + 1) (done + min l.lines (suc wanted)) (suc wanted - l.lines) pieces (Ok make.back)
      (omega arith) make.others;
  are_samples = make.are_pixels;
}
coded_make s l number done (suc wanted) (piece ∷ pieces) (Err fault) all (inl fail) =
    inl (record { rice = fail.rice; fails = fail.fails; is_fault = fail.is_fault })
coded_make s l number done (suc wanted) (piece ∷ pieces) (Err fault) all (inr later) =
    inr (record {
      front = later.front;
      begins = later.gives;
      later = coded_make s l (number + 1) (done + min l.lines (suc wanted)) (suc wanted - l.lines) pieces (Err fault)
          (omega arith) later.later;
    })

-- they have no more lines than are wanted
pub coded-lines : (s : Structure) (l : Lossless) (wanted : ℕ) (pieces : List (List ℕ))
    → all_lines (coded_strips s l wanted pieces) ≤ wanted
coded-lines s l zero pieces = omega arith
coded-lines s l (suc wanted) [] = omega arith
coded-lines s l (suc wanted) (piece ∷ pieces) =
    omega (arith, coded-lines s l (suc wanted - l.lines) pieces)

-- the strip of a piece is one
pub coded_strip_is : (s : Structure) (l : Lossless) (piece : List ℕ) (lines : ℕ) → IsSize 5 s → IsCoding l
    → length piece < 2 ^ 61 → s.columns ≤ 65535 → lines ≤ 65535 → IsStrip (coded_strip s l piece lines)
coded_strip_is s l piece lines size coding short wide few = record {
  short = short;
  some = size.columns;
  wide = wide;
  few = few;
  fits = (size.least_bits, size.most_bits, coding.least_block, coding.most_block, coding.even);
}

pub coded_are : (s : Structure) (l : Lossless) (wanted : ℕ) (pieces : List (List ℕ)) → IsSize 5 s → IsCoding l
    → s.columns ≤ 65535 → wanted ≤ 65535 → All (λ (piece : List ℕ). length piece < 2 ^ 61) pieces
    → All (IsStripOf s) (coded_strips s l wanted pieces)
coded_are s l zero pieces size coding wide few short = All-nil (IsStripOf s)
coded_are s l (suc wanted) [] size coding wide few short = All-nil (IsStripOf s)
coded_are s l (suc wanted) (piece ∷ pieces) size coding wide few short =
    let lines = min l.lines (suc wanted) in
    let some = coding.some in
    All-cons (IsStripOf s) (coded_strip s l piece lines) (coded_strips s l (suc wanted - l.lines) pieces)
    (record {
      is_strip = coded_strip_is s l piece lines size coding
          (All-head (λ (p : List ℕ). length p < 2 ^ 61) piece pieces short) wide (omega arith);
      columns = refl;
      some = omega arith;
    })
    (coded_are s l (suc wanted - l.lines) pieces size coding wide (omega arith)
    (All-tail (λ (p : List ℕ). length p < 2 ^ 61) piece pieces short))

-- pieces are no longer than their bodies
with_short : (most : ℕ) (piece : List ℕ) (pieces : List (List ℕ)) → length piece ≤ most
    → All (λ (p : List ℕ). length p ≤ most) pieces → All (λ (p : List ℕ). length p ≤ most) (piece_with piece pieces)
with_short most [] pieces short all = all
with_short most (byte ∷ bytes) pieces short all =
    All-cons (λ (p : List ℕ). length p ≤ most) (byte ∷ bytes) pieces short all

pub pieces_short : (most skipped : ℕ) (bodies : List (List ℕ)) → All (λ (body : List ℕ). length body ≤ most) bodies
    → All (λ (piece : List ℕ). length piece ≤ most) (pieces_after skipped bodies)
pieces_short most skipped [] short = All-nil (λ (p : List ℕ). length p ≤ most)
pieces_short most skipped (body ∷ bodies) short =
    let P : List ℕ → Type 0 = λ (p : List ℕ). length p ≤ most in
    with_short most (drop skipped body) (pieces_after (skipped - length body) bodies)
    (omega (arith, length-drop skipped body, All-head P body bodies short))
    (pieces_short most (skipped - length body) bodies (All-tail P body bodies short))
