-- The pixels of a shape make an image.
use Rattle.std.proofs.Common.{◌≡◌, ◌<◌, ◌≤◌, ◌+◌, ◌-◌, ◌*◌, ◌^◌, min, ℕ, List, [], ◌∷◌, ◌++◌, length, All, Option}
use Rattle.std.proofs.Common.{Some, None, sym, ap, ◌∙◌, subst, arith, length-append, pow_pos}
use Rattle.std.proofs.lemmas.List.Elements.{All-append}
use Rattle.lr_bits.specs.File.{File}
use Rattle.lr_headers.specs.declared.fields.Structure.{Structure}
use Rattle.lr_headers.specs.declared.fields.Lossless.{Lossless}
use Rattle.lr_rice.specs.CodedLines.{Form, greatest}
use Rattle.lr_rice.specs.Laws.{AreSamples, IsForm}
use Rattle.lr_rice.proofs.WholeLines.{lines_are_whole}
use Rattle.lr_image.specs.Picture.{IsPicture}
use Rattle.lr_image.specs.Pieces.{GiveLines}
use Rattle.lr_image.specs.Images.{HasPixels, data_pieces, line_form}
use Rattle.lr_image.specs.Shapes.{IsCoding, IsShapeOf, IsSize}

none : (form : Form) (n : ℕ) (samples : List ℕ) → n ≡ 0 → samples ≡ [] → AreSamples form n samples
none form n samples no_lines is =
    let size : length samples ≡ 0 = ap length is in
    record {
      whole = omega (arith, ap (λ k. k * form.columns) no_lines);
      small = λ k d inside. absurd (omega arith);
    }

joined : (form : Form) (m n all : ℕ) (front back samples : List ℕ) → AreSamples form m front → AreSamples form n back
    → samples ≡ front ++ back → m + n ≡ all → AreSamples form all samples
joined form m n all front back samples first second is sum =
    let size : length samples ≡ length front + length back = ap length is ∙ length-append front back in
    let one = first.whole in
    let two = second.whole in
    let product : (m + n) * form.columns ≡ all * form.columns = ap (λ k. k * form.columns) sum in
    let P : ℕ → Type 0 = λ sample. sample ≤ greatest form.bits in
    record {
      whole = omega arith;
      small = subst (λ (l : List ℕ). All P l) (sym is) (All-append P front back first.small second.small);
    }

pub pieces_are_whole : (form : Form) (each wanted : ℕ) (pieces : List (List ℕ)) (samples : List ℕ) → IsForm form
    → GiveLines form each wanted pieces samples → AreSamples form wanted samples
pieces_are_whole form each wanted [] samples is give = none form wanted samples give.0 give.1
pieces_are_whole form each wanted (piece ∷ pieces) samples is give =
    joined form (min each wanted) (wanted - each) wanted give.front give.back samples
    (lines_are_whole form is (min each wanted) give.front give.begins.coding give.begins.lines)
    (pieces_are_whole form each (wanted - each) pieces give.back is give.others) give.are_samples (omega arith)

pub form_is : (s : Structure) (l : Lossless) → IsSize 5 s → IsCoding l → IsForm (line_form s l)
form_is s l size coding = record {
  least_bits = size.least_bits;
  most_bits = size.most_bits;
  least_block = coding.least_block;
  most_block = coding.most_block;
  even = coding.even;
  some = size.columns;
}

pub makes_picture : (file : File) (size : ℕ) (s : Structure) (lossless : Option Lossless) (pixels : List ℕ)
    → IsShapeOf s lossless → HasPixels file size s lossless pixels
    → IsPicture (record { bits = s.bits; columns = s.columns; lines = s.lines; pixels = pixels })
makes_picture file size s None pixels is has =
    record { least = is.least_bits; most = is.most_bits; whole = has.count; small = has.small }
makes_picture file size s (Some l) pixels is has =
    let form = form_is s l is.0 is.1 in
    let samples = pieces_are_whole (line_form s l) l.lines s.lines (data_pieces file size) pixels form has in
    let least = is.0.least_bits in
    let whole = samples.whole in
    let power : 0 < 2 ^ s.bits = pow_pos s.bits in
    record {
      least = omega arith;
      most = is.0.most_bits;
      whole = omega arith;
      small = λ k d inside. omega (arith, samples.small k d inside);
    }
