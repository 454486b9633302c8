use Rattle.std.proofs.Common.{◌≡◌, Result, Ok, Err, IfOk, IfErr, ap, inl, inr, subst, sym}
use Rattle.std.specs.Prelude.{◌≢◌}
use Rattle.lr_bits.specs.File.{File}
use Rattle.lr_bits.specs.declared.refusals.NoMemory.{NoMemory}
use Rattle.lr_image.specs.Images.{HasImageFaultOrMemory, HasOutcome, IsImageOf}
use Rattle.lr_image.specs.Picture.{Picture}
use Rattle.lr_image.specs.declared.fault.ImageFault.{ImageFault}
use Rattle.lr_image.specs.declared.fault.ImageFault.TheVariants as faults
use Rattle.lr_cmd_shelf.proofs.files.outcome_of.Goals as goal

outcome_is : (file : File) (found : Result Picture ImageFault) (given : Result (Result Picture ImageFault) NoMemory)
    → IfOk given (λ outcome. (outcome ≡ found) × (found ≢ Err faults.NoMemory)) → IfOk found (IsImageOf file)
    → IfErr found (HasImageFaultOrMemory file) → IfOk given (HasOutcome file)
outcome_is file found (Err none) is image fault = tt
outcome_is file (Ok picture) (Ok outcome) is image fault =
    subst (λ (o : Result Picture ImageFault). HasOutcome file o) (sym is.0) image
outcome_is file (Err first) (Ok outcome) is image fault =
    subst (λ (o : Result Picture ImageFault). HasOutcome file o) (sym is.0) (elim fault [
      | inl none ↦ absurd (is.1 (ap Err none))
      | inr has ↦ has
    ])

pub returns : goal.returns
returns c =
    outcome_is c.args.file.now c.image_of.result c.outcome_by.result c.outcome_by.ensures.outcome c.image_of.ensures.ok
    c.image_of.ensures.err
