use Rattle.lr_bits.specs.declared.outcome.Outcome.TheVariants.{Restored, Lost}
use Rattle.lr_block.specs.Outcomes.{IsOutcome}
use Rattle.lr_block.proofs.Outcomes.{outcome_from_restored, outcome_from_lost, outcome_is_the_one}
use Rattle.lr_block.proofs.outcome.outcome_of.Goals as goal

restored : (c : goal.After-information)
    → IsOutcome c.args.block.now (Restored c.in-Ok.corrected c.information.new.frame)
restored c =
    outcome_from_restored c.args.block.now c.derandomise.new.block c.restore_block.new.block c.in-Ok.corrected.0
    c.information.new.frame c.derandomise.ensures
    c.in-Ok.ensures.restored c.in-Ok.ensures.changed c.information.ensures.frame

lost : (c : goal.In-Err) → IsOutcome c.args.block.now (Lost c.in-Err.field-0.0)
lost c = outcome_from_lost c.args.block.now c.derandomise.new.block c.in-Err.field-0.0 c.derandomise.ensures
    c.in-Err.ensures.lost

pub returns-in-Ok-clause-outcome : goal.returns-in-Ok-clause-outcome
returns-in-Ok-clause-outcome c = restored c

pub returns-in-Err-clause-outcome : goal.returns-in-Err-clause-outcome
returns-in-Err-clause-outcome c = lost c

pub returns-in-Ok-clause-value : goal.returns-in-Ok-clause-value
returns-in-Ok-clause-value c =
    (outcome_is_the_one c.args.block.now (record { long = c.told-block; bytes = λ i h. c.fits-block i })
    (Restored c.in-Ok.corrected c.information.new.frame)).0 (restored c)

pub returns-in-Err-clause-value : goal.returns-in-Err-clause-value
returns-in-Err-clause-value c =
    (outcome_is_the_one c.args.block.now (record { long = c.told-block; bytes = λ i h. c.fits-block i })
    (Lost c.in-Err.field-0.0)).0
    (lost c)
