use Rattle.std.proofs.Common.{◌≡◌, ◌+◌, ◌≤◌, ◌∷◌, ◌++◌, [], length, take, ap, ◌∙◌, sym, arith}
use Rattle.std.proofs.Common.{append-nil, append_assoc, length-take-le}
use Rattle.std.proofs.lemmas.List.{take_more}
use Rattle.lr_catalog.specs.Packets.{packet_line}
use Rattle.lr_cmd_print.specs.Packets.{lines_from}
use Rattle.lr_cmd_print.proofs.PacketsText.{lines_from-none, lines_from-push}
use Rattle.lr_cmd_print.proofs.packet_lines.compose.Goals as goal

pub loop-place-init : goal.loop-place-init
loop-place-init c = sym (ap (λ l. c.args.lines.now ++ l) (lines_from-none c.args.first) ∙ append-nil c.args.lines.now)

pub loop-place-preserved : goal.loop-place-preserved
loop-place-preserved c =
    let packets = c.args.packets.now in
    let packet = c.index-packets-place.result in
    let before = take c.loop-place.place packets in
    let more : take (c.loop-place.place + 1) packets ≡ before ++ packet ∷ [] =
    take_more packets c.loop-place.place packet c.loop-place-test.true
    ∙ ap (λ p. before ++ p ∷ []) (sym c.index-packets-place.is) in
    let inside : c.loop-place.place ≤ length packets = omega (arith, c.loop-place-test.true) in
    let long : length before ≡ c.loop-place.place = length-take-le c.loop-place.place packets inside in
    c.in_ok-packet_line.ensures.ok
    ∙ ap (λ l. l ++ packet_line (c.args.first + c.loop-place.place) packet) c.loop-place.invariant
    ∙ append_assoc c.args.lines.now (lines_from c.args.first before)
    (packet_line (c.args.first + c.loop-place.place) packet)
    ∙ ap (λ k. c.args.lines.now ++ (lines_from c.args.first before ++ packet_line (c.args.first + k) packet)) (sym long)
    ∙ ap (λ l. c.args.lines.now ++ l) (sym (lines_from-push c.args.first before packet))
    ∙ ap (λ l. c.args.lines.now ++ lines_from c.args.first l) (sym more)

pub returns-in_err-packet_line-clause-succeeds : goal.returns-in_err-packet_line-clause-succeeds
returns-in_err-packet_line-clause-succeeds c none =
    absurd (omega (arith, c.loop-place-test.true, ap length none))
