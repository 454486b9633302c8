use Rattle.std.proofs.Common.{◌++◌, ◌∷◌, [], List, length, subst, sym, ap, ◌∙◌, append-nil, rules, arith}
use Rattle.std.specs.Result.{IsErr}
use Rattle.lr_vc.specs.Frame.{Fields}
use Rattle.lr_vc.specs.Reading.{fields}
use Rattle.lr_vc.specs.Packets.{packets_at}
use Rattle.lr_vc.specs.Standing.{ChannelsStandFor}
use Rattle.lr_cmd_print.specs.Packets.{frames_read}
use Rattle.lr_cmd_print.proofs.Adding.{added_is}
use Rattle.lr_causes.proofs.Results.{on_ok, on_ok_both}
use Rattle.lr_cmd_print.proofs.PacketsText.{frames_read-good, frames_read-bad, packets_read-good, packets_read-bad}
use Rattle.lr_cmd_print.proofs.packet_lines.read_packets.Goals as goal

pub returns-in-Ok-clause-stands : goal.returns-in-Ok-clause-stands
returns-in-Ok-clause-stands c =
    let f = fields c.in-Ok.frame in
    let frame = c.args.frame.now in
    λ frames h. on_ok c.push.result (c.push.ensures.stands (frames_read frames) h)
    (λ stands. subst (λ (l : List Fields). ChannelsStandFor c.push.new.self l)
    (sym (frames_read-good frames frame f (sym c.in-Ok.ensures))) stands)

pub returns-in-Ok-clause-packets : goal.returns-in-Ok-clause-packets
returns-in-Ok-clause-packets c =
    let f = fields c.in-Ok.frame in
    let frame = c.args.frame.now in
    λ frames h. on_ok_both c.push.result (c.push.ensures.stands (frames_read frames) h)
    (c.push.ensures.packets (frames_read frames) h)
    (λ stands more. more ∙ ap (λ l. c.args.packets.now.items ++ l)
    (sym (added_is frames frame (packets_at (frames_read frames ++ f ∷ []) (length (frames_read frames)))
    (packets_read-good frames frame f (sym c.in-Ok.ensures) stands.frames))))

pub returns-in-Err-clause-stands : goal.returns-in-Err-clause-stands
returns-in-Err-clause-stands c =
    λ frames h. subst (λ (l : List Fields). ChannelsStandFor c.args.channels.now l)
    (sym (frames_read-bad frames c.args.frame.now c.in-Err.field-0.0 (sym c.in-Err.ensures))) h

pub returns-in-Err-clause-packets : goal.returns-in-Err-clause-packets
returns-in-Err-clause-packets c =
    λ frames h. sym (ap (λ l. c.args.packets.now.items ++ l)
    (added_is frames c.args.frame.now []
    (packets_read-bad frames c.args.frame.now c.in-Err.field-0.0 (sym c.in-Err.ensures)))
    ∙ append-nil c.args.packets.now.items)

pub returns-in-Ok-clause-succeeds : goal.returns-in-Ok-clause-succeeds
returns-in-Ok-clause-succeeds c bad = absurd (cc (subst (λ r. IsErr r) (sym c.in-Ok.ensures) bad))

pub returns-in-Ok-clause-none : goal.returns-in-Ok-clause-none
returns-in-Ok-clause-none c bad = absurd (cc (subst (λ r. IsErr r) (sym c.in-Ok.ensures) bad))

pub returns-in-Err-clause-succeeds : goal.returns-in-Err-clause-succeeds
returns-in-Err-clause-succeeds c = search (rules, arith)
