use Rattle.std.proofs.Common.{◌≡◌, ◌⊎◌, Result, Ok, Err, IfOk, IfErr, ap, inl, inr, subst, sym}
use Rattle.std.specs.Prelude.{◌≢◌}
use Rattle.lr_bits.specs.declared.refusals.NoMemory.{NoMemory}
use Rattle.lr_image.specs.declared.fault.ImageFault.{ImageFault}
use Rattle.lr_image.specs.declared.fault.ImageFault.TheVariants as faults
use Rattle.lr_render.specs.Plans.{HasNoPlan, IsNewPlan, PlanView}
use Rattle.lr_render.proofs.Planning.{refusals_are_faults}
use Rattle.lr_shelf_format.specs.declared.stored.Stored.{Stored}
use Rattle.lr_cmd_render.specs.Contents.{IsContentOf, content_by}
use Rattle.lr_cmd_render.specs.declared.content.Content.{Content}
use Rattle.lr_cmd_render.proofs.content.content_of.Goals as goal

content_is : (stored : Stored) (planned : Result PlanView ImageFault) (given : Result Content NoMemory)
    → IfOk given (λ content. (content ≡ content_by planned) × (planned ≢ Err faults.NoMemory))
    → IfOk planned (IsNewPlan stored.file)
    → IfErr planned (λ fault. (fault ≡ faults.NoMemory) ⊎ HasNoPlan stored.file fault)
    → IfOk given (IsContentOf stored)
content_is stored planned (Err none) is plan fault = tt
content_is stored (Ok planned) (Ok content) is plan fault =
    subst (λ (held : Content). IsContentOf stored held) (sym is.0) plan
content_is stored (Err first) (Ok content) is plan fault =
    subst (λ (held : Content). IsContentOf stored held) (sym is.0) (elim fault [
      | inl none ↦ absurd (is.1 (ap Err none))
      | inr none ↦ (first, refusals_are_faults stored.file first none)
    ])

pub returns : goal.returns
returns c =
    content_is c.args.stored c.new.result c.content_by.result c.content_by.ensures.content c.new.ensures.ok
    c.new.ensures.err
