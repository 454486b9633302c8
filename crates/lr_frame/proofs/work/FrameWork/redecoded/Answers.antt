use Rattle.std.proofs.Common.{ℤ, List, ap, sym, ◌∙◌}
use Rattle.lr_block.specs.Outcomes.{outcome_of_block}
use Rattle.lr_conv.specs.Passes.{number_of}
use Rattle.lr_conv.specs.declared.line.LineCode.{LineCode}
use Rattle.lr_redecode.specs.Redecoded.{outcome_after}
use Rattle.lr_frame.specs.Outcomes.{outcome_of_window, redecoded_outcome}
use Rattle.lr_frame.proofs.Passing.{restored_stay}
use Rattle.lr_frame.proofs.work.FrameWork.redecoded.Goals as goal

pub returns-in-Restored : goal.returns-in-Restored
unfolding outcome_of_window
returns-in-Restored c =
    sym (restored_stay c.args.window.now.line c.args.passes c.args.window.now.symbols c.in-Restored.frame
    c.in-Restored.corrected (ap outcome_of_block (sym c.requires) ∙ sym c.in-Restored.ensures.value))

pub returns-in-Lost : goal.returns-in-Lost
unfolding redecoded_outcome
returns-in-Lost c =
    c.outcome.ensures
    ∙ ap (λ (k : LineCode). outcome_after k c.symbols.result.now (number_of c.args.passes)) c.line.ensures
    ∙ ap (λ (w : List ℤ). outcome_after c.args.window.now.line w (number_of c.args.passes)) c.symbols.ensures.symbols
