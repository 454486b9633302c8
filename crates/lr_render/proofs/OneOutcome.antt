-- A strip has one outcome.
use Rattle.std.proofs.Common.{◌≡◌, ◌≤◌, ◌*◌, ℕ, List, Some, None, refl, sym, ap, ◌∙◌}
use Rattle.lr_bits.specs.Bits.{bits_of}
use Rattle.lr_rice.specs.declared.fault.RiceFault.{RiceFault}
use Rattle.lr_rice.specs.CodedLines.{form_of}
use Rattle.lr_rice.specs.Laws.{IsForm}
use Rattle.lr_rice.proofs.ReadingLines.{faults_are_one, lines_are_one, lines_have_no_fault}
use Rattle.lr_image.proofs.OneReading.{plain_are_one}
use Rattle.std.specs.Prelude.{drop}
use Rattle.lr_render.specs.Laws.{StripsHaveOneOutcome}
use Rattle.lr_render.specs.Strips.{FailsBy, FitsCoding, GivesBy}
use Rattle.lr_render.specs.declared.strip.Coding.{Coding}
use Rattle.lr_render.specs.declared.strip.Coding.TheVariants.{Plain, Coded}
use Rattle.lr_render.specs.declared.strip.StripSource.{StripSource}

strip_form : (strip : StripSource) (block : ℕ) → 1 ≤ strip.columns → FitsCoding (Coded block) strip
    → IsForm (form_of strip.bits block strip.columns)
strip_form strip block some fits = record {
  least_bits = fits.0;
  most_bits = fits.1;
  least_block = fits.2;
  most_block = fits.3;
  even = fits.4;
  some = some;
}

pixels_one : (coding : Coding) (strip : StripSource) (pixels others : List ℕ) → 1 ≤ strip.columns
    → FitsCoding coding strip → GivesBy coding strip pixels → GivesBy coding strip others → pixels ≡ others
pixels_one (Plain first_bit) strip pixels others some fits a b =
    plain_are_one strip.bits (strip.columns * strip.lines) (drop first_bit (bits_of strip.bytes)) pixels others a b
pixels_one (Coded block) strip pixels others some fits a b =
    let form = form_of strip.bits block strip.columns in
    (lines_are_one form (strip_form strip block some fits) strip.lines pixels others a.coding b.coding a.rest b.rest
    a.lines b.lines (sym a.is_string ∙ b.is_string)).0

never_both : (coding : Coding) (strip : StripSource) (pixels : List ℕ) (fault : RiceFault) → 1 ≤ strip.columns
    → FitsCoding coding strip → GivesBy coding strip pixels → FailsBy coding strip fault → ⊥
never_both (Plain first_bit) strip pixels fault some fits a b = b
never_both (Coded block) strip pixels fault some fits a b =
    lines_have_no_fault (form_of strip.bits block strip.columns) (strip_form strip block some fits) strip.lines pixels
    (bits_of strip.bytes) fault a b

faults_one : (coding : Coding) (strip : StripSource) (fault other : RiceFault) → 1 ≤ strip.columns
    → FitsCoding coding strip → FailsBy coding strip fault → FailsBy coding strip other → fault ≡ other
faults_one (Plain first_bit) strip fault other some fits a b = absurd a
faults_one (Coded block) strip fault other some fits a b =
    faults_are_one (form_of strip.bits block strip.columns) (strip_form strip block some fits) strip.lines
    (bits_of strip.bytes) fault other a b

pub strips_have_one_outcome : StripsHaveOneOutcome
strips_have_one_outcome strip None None pixels others is a b =
    (refl, pixels_one strip.coding strip pixels others is.some is.fits a b)
strips_have_one_outcome strip None (Some other) pixels others is a b =
    absurd (never_both strip.coding strip pixels other is.some is.fits a b.0)
strips_have_one_outcome strip (Some fault) None pixels others is a b =
    absurd (never_both strip.coding strip others fault is.some is.fits b a.0)
strips_have_one_outcome strip (Some fault) (Some other) pixels others is a b =
    (ap Some (faults_one strip.coding strip fault other is.some is.fits a.0 b.0), a.1 ∙ sym b.1)
