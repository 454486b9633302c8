use Rattle.std.proofs.Common.{◌++◌, ◌∷◌, [], sym, ap, ◌∙◌, subst}
use Rattle.std.proofs.lemmas.Result.{IfOk-weaker}
use Rattle.lr_packet.specs.Reading.{good}
use Rattle.lr_mend.specs.MendedFiles.{KeptMended, MendedStandFor, file_of_packet, files_of_gap, kept_mended}
use Rattle.lr_mend.proofs.MendedTaking.{stands_unspent, taken_on}
use Rattle.lr_mend.proofs.mended.MendedFiles.push.Goals as goal

pub returns-clause-stands : goal.returns-clause-stands
returns-clause-stands c packets stands =
    let p = good c.args.packet.now in
    let before = stands_unspent _ packets c.self.view_is stands in
    let new = kept_mended c.take-result.new.mender c.take-result.new.files c.take-result.new.seams in
    taken_on c.take-result.result (c.take-result.ensures.takes packets before)
    (λ fine ended taken. subst (λ b. MendedStandFor (record new { spent = b }) (packets ++ p ∷ []))
    (sym (c.is_err-self-inside.ensures.value ∙ fine)) taken.stands)

pub returns-clause-gap : goal.returns-clause-gap
returns-clause-gap c packets stands =
    let p = good c.args.packet.now in
    let before = stands_unspent _ packets c.self.view_is stands in
    IfOk-weaker c.take-result.result _ _
    (λ ended taken. taken.gap ∙ ap (λ (kept : KeptMended). files_of_gap kept.images.most packets p) c.self.view_is)
    (c.take-result.ensures.takes packets before)

pub returns-clause-file : goal.returns-clause-file
returns-clause-file c packets stands =
    let p = good c.args.packet.now in
    let before = stands_unspent _ packets c.self.view_is stands in
    IfOk-weaker c.take-result.result _ _
    (λ ended taken. taken.file ∙ ap (λ (kept : KeptMended). file_of_packet kept.images.most packets p) c.self.view_is)
    (c.take-result.ensures.takes packets before)
