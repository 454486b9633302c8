use Rattle.std.proofs.Common.{ℕ, Some, None, List, map, refl, ap, sym, ◌∙◌}
use Rattle.std.proofs.lemmas.Result.{IfOk-weaker}
use Rattle.lr_packet.specs.Reading.{good}
use Rattle.lr_mend.specs.Laws.{packet_mended}
use Rattle.lr_mend.specs.Marks.{marked}
use Rattle.lr_mend.specs.Mending.{Mended}
use Rattle.lr_mend.specs.Seams.{Seams}
use Rattle.lr_mend.proofs.MendedTaking.{seams_next, takes_one}
use Rattle.lr_mend.proofs.mended.take_one.Goals as goal

pub returns-in_default : goal.returns-in_default
returns-in_default c before files seams =
    let m : Mended = record { packet = good c.args.packet.now; filler = c.args.filler } in
    let noted = seams_next c.args.seams.now c.note.new.self before m (c.in_ok-note.ensures seams.once) seams in
    let at = sym (c.in_ok-file.ensures.file (map packet_mended before) files) ∙ c.in_default.is in
    takes_one before m c.push.new.self c.note.new.self None None
    (c.in_ok-file.ensures.stands (map packet_mended before) files) noted at refl

pub returns : goal.returns
returns c before files seams =
    let m : Mended = record { packet = good c.args.packet.now; filler = c.args.filler } in
    let noted = seams_next c.args.seams.now c.note.new.self before m (c.in_ok-note.ensures seams.once) seams in
    let at = sym (c.in_ok-file.ensures.file (map packet_mended before) files) ∙ c.in-Some.is in
    let places = c.fillers_of.ensures ∙ ap (λ (s : Seams). s.fillers) (noted.seams m.packet.vc m.packet.apid) in
    IfOk-weaker c.mark.result _ _ (λ result is.
    takes_one before m c.push.new.self c.note.new.self (Some c.in-Some.file) result
    (c.in_ok-file.ensures.stands (map packet_mended before) files) noted at
    (ap (λ (l : List ℕ). marked c.in-Some.file l) (sym places) ∙ sym is)) c.mark.ensures
