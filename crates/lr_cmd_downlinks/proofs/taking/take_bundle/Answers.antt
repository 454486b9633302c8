use Rattle.std.proofs.Common.{◌∙◌, List, Result, ℕ, IfOk, IfErr, subst, sym}
use Rattle.lr_causes.specs.declared.cause.Cause.{Cause}
use Rattle.lr_forms.specs.declared.forms.Stop.{Stop}
use Rattle.lr_cmd_downlinks.specs.Taking.{TakesBundle, TakesBytes, TakesNone}
use Rattle.lr_cmd_downlinks.proofs.Flaws.{ended, stopped, takes_bundle, takes_none}
use Rattle.lr_cmd_downlinks.proofs.taking.take_bundle.Goals as goal

pub returns-in-Err-clause-refused : goal.returns-in-Err-clause-refused
returns-in-Err-clause-refused g c =
    stopped g.S.Source c.in_ok-bytes.bytes c.args.source.now c.take_bytes.new.source c.in_ok-bytes.stop c.in-Err.cause
    (sym c.unless_stopped.ensures ∙ c.in-Err.is) c.in_ok-bytes.ensures.taken

pub returns-clause-taken : goal.returns-clause-taken
returns-clause-taken g c =
    let bytes = c.in_ok-bytes.bytes in
    let end = ended c.in_ok-bytes.stop c.in_default.field-0 (sym c.unless_stopped.ensures ∙ c.in_default.is) in
    let taken = subst (λ (stop : Stop). TakesBytes g.S.Source bytes stop c.args.source.now c.take_bytes.new.source) end
    c.in_ok-bytes.ensures.taken in
    subst (λ (r : Result (List (List ℕ)) Cause). IfOk r (λ streams.
    TakesBundle g.S.Source streams c.args.source.now c.take_bytes.new.source)) (sym c.bundle_by.ensures)
    (takes_bundle g.S.Source bytes c.args.source.now c.take_bytes.new.source taken c.read.result
    c.read.ensures.reading c.read.ensures.only)

pub returns-clause-refused : goal.returns-clause-refused
returns-clause-refused g c =
    let bytes = c.in_ok-bytes.bytes in
    let end = ended c.in_ok-bytes.stop c.in_default.field-0 (sym c.unless_stopped.ensures ∙ c.in_default.is) in
    let taken = subst (λ (stop : Stop). TakesBytes g.S.Source bytes stop c.args.source.now c.take_bytes.new.source) end
    c.in_ok-bytes.ensures.taken in
    subst (λ (r : Result (List (List ℕ)) Cause). IfErr r (λ cause.
    TakesNone g.S.Source cause c.args.source.now c.take_bytes.new.source)) (sym c.bundle_by.ensures)
    (takes_none g.S.Source bytes c.args.source.now c.take_bytes.new.source taken c.read.result
    c.read.ensures.reading c.read.ensures.only)
