use Rattle.std.proofs.Common.{◌≡◌, ◌∙◌, Option, Some, None, Err, ap, rules, sym}
use Rattle.lr_causes.specs.Causes.{cause_of_fault}
use Rattle.lr_causes.specs.declared.cause.Cause.TheVariants.{Refused}
use Rattle.lr_causes.specs.declared.cause.Refusal.{Refusal}
use Rattle.lr_causes.specs.declared.fault.ExportFault.{ExportFault}
use Rattle.lr_refusals.specs.Errors.{image_fault}
use Rattle.lr_cmd_shelf.specs.Export.{image_fate}
use Rattle.lr_cmd_shelf.specs.Files.{refused_for}
use Rattle.lr_cmd_shelf.proofs.export.ExportingPutsFile.put.Goals as goal

refused_is : (fault : Option ExportFault) (refusal : Refusal) → refused_for fault ≡ Err refusal
    → cause_of_fault fault ≡ Refused refusal
refused_is (Some fault) refusal is = cc (is)
refused_is None refusal is = cc (is)

pub returns-in-Some-Err-clause-refuses : goal.returns-in-Some-Err-clause-refuses
returns-in-Some-Err-clause-refuses g c = λ refusal is.
    let fault = c.in-Some-Err.fault in
    let fate : image_fate c.args.opened.now.image ≡ refused_for (image_fault fault) = search rules in
    ap Err (c.image_cause.ensures ∙ refused_is (image_fault fault) refusal (sym fate ∙ is))
