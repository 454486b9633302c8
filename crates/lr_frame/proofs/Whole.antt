-- Restored frames have 892 bytes.
use Rattle.std.proofs.Common.{◌≡◌, ℕ, ℤ, Option, Some, None, List, length, take, refl, sym, ◌∙◌, ap}
use Rattle.lr_bits.specs.declared.outcome.Corrected.{Corrected}
use Rattle.lr_bits.specs.declared.outcome.Outcome.TheVariants.{Restored}
use Rattle.lr_bits.specs.declared.sizes.TheConstants.{FRAME_BYTES}
use Rattle.lr_block.specs.Outcomes.{restored_block, first_lost, outcome_at, outcome_of_block}
use Rattle.lr_block.specs.Randomiser.{randomised_block}
use Rattle.lr_conv.specs.Passes.{number_of}
use Rattle.lr_conv.specs.declared.line.LineCode.{LineCode}
use Rattle.lr_conv.specs.declared.passes.Passes.{Passes}
use Rattle.lr_redecode.proofs.Staying.{restored_whole}
use Rattle.lr_frame.specs.Outcomes.{outcome_of_window, redecoded_outcome}

frame_length : (block : List ℕ) → length (take FRAME_BYTES (restored_block block)) ≡ FRAME_BYTES
unfolding restored_block
frame_length block = refl

whole_at : (block frame : List ℕ) (corrected : Corrected) (lost : Option ℕ) →
    Restored corrected frame ≡ outcome_at block lost → length frame ≡ FRAME_BYTES
whole_at block frame corrected None e =
    let same : frame ≡ take FRAME_BYTES (restored_block block) = cc in
    ap (λ (f : List ℕ). length f) same ∙ frame_length block
whole_at block frame corrected (Some k) e = cc

pub whole_of_block : (block frame : List ℕ) (corrected : Corrected) →
    Restored corrected frame ≡ outcome_of_block block → length frame ≡ FRAME_BYTES
unfolding outcome_of_block
whole_of_block block frame corrected e =
    whole_at (randomised_block block) frame corrected (first_lost (randomised_block block)) e

pub whole_of_window : (line : LineCode) (window : List ℤ) (frame : List ℕ) (corrected : Corrected) →
    Restored corrected frame ≡ outcome_of_window line window → length frame ≡ FRAME_BYTES
unfolding outcome_of_window
whole_of_window line window frame corrected e = whole_of_block _ frame corrected e

pub whole_of_redecoded : (line : LineCode) (passes : Passes) (window : List ℤ) (frame : List ℕ)
    (corrected : Corrected) → Restored corrected frame ≡ redecoded_outcome line passes window →
    length frame ≡ FRAME_BYTES
unfolding redecoded_outcome
whole_of_redecoded line passes window frame corrected e =
    restored_whole line window (number_of passes) frame corrected (sym e)
