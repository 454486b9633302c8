use Rattle.std.proofs.Common.{◌≡◌, ◌++◌, ◌∷◌, [], false, length, take, ap, ap₂, ◌∙◌, sym, subst, append-nil, arith}
use Rattle.std.proofs.Common.{rules}
use Rattle.std.proofs.lemmas.Bool.{false_from_ne_true}
use Rattle.lr_bits.specs.Packet.{IsPacket}
use Rattle.lr_bits.specs.declared.sizes.TheConstants.{ZONE_BYTES}
use Rattle.lr_vc.specs.Packets.{is_whole, packet_at}
use Rattle.lr_vc.specs.Steps.{packets_inside, starts_unfinished}
use Rattle.lr_vc.proofs.Lists.{front_kept}
use Rattle.lr_vc.proofs.Inside.{is_packet_at, push_step, packet_copied, packets_inside-rest, starts_unfinished-whole}
use Rattle.lr_vc.proofs.Inside.{starts_unfinished-rest}
use Rattle.lr_vc.proofs.zone.push_inside.Goals as goal

pub whole-requires : goal.whole-requires
whole-requires c =
    let zone = c.args.zone.now in
    let same =
    packet_copied c.args.vc zone c.loop-end.start c.in-Some.end c.in_ok-bytes.bytes c.in_ok-bytes.ensures
    c.in-Some.ensures.end.1 in
    subst IsPacket (sym same) (is_packet_at c.args.vc zone c.loop-end.start c.requires.channel c.in-Some.ensures.end.0)

pub loop-end-preserved : goal.loop-end-preserved
loop-end-preserved c =
    let zone = c.args.zone.now in
    let long : length zone ≡ ZONE_BYTES = search rules in
    let start = c.loop-end.start in
    let done = c.loop-end.packets.items in
    let whole = c.in-Some.ensures.end.0 in
    let end = c.in-Some.ensures.end.1 in
    let same = packet_copied c.args.vc zone start c.in-Some.end c.in_ok-bytes.bytes c.in_ok-bytes.ensures end in
    let items : c.push.new.self.items ≡ done ++ packet_at c.args.vc zone start ∷ [] =
    c.in_ok-push.ensures.items ∙ ap (λ p. done ++ p ∷ []) (c.whole.ensures ∙ same) in
    let more = packet_at c.args.vc zone start ∷ [] in
    let all = c.args.packets.now.items ++ packets_inside c.args.vc zone c.args.first in (
      ap₂ (λ ps e. ps ++ packets_inside c.args.vc zone e) items end
          ∙ push_step c.args.vc start zone done all long whole c.loop-end.invariant.0,
      ap (starts_unfinished zone) end ∙ sym (starts_unfinished-whole zone long start whole) ∙ c.loop-end.invariant.1,
      omega (arith, c.in-Some.ensures.inside),
      ap (take (length c.args.packets.now.items)) items
          ∙ front_kept c.args.packets.now.items done more c.loop-end.invariant.3,
    )

pub returns-clause-packets : goal.returns-clause-packets
returns-clause-packets c =
    let zone = c.args.zone.now in
    let long : length zone ≡ ZONE_BYTES = search rules in
    let part : is_whole zone c.loop-end.start ≡ false =
    false_from_ne_true (is_whole zone c.loop-end.start) c.in_default.ensures.end in
    sym (append-nil c.loop-end.packets.items) ∙ ap (λ ps. c.loop-end.packets.items ++ ps)
    (sym (packets_inside-rest zone long c.args.vc c.loop-end.start part)) ∙ c.loop-end.invariant.0

pub returns-clause-unfinished : goal.returns-clause-unfinished
returns-clause-unfinished c =
    let zone = c.args.zone.now in
    let long : length zone ≡ ZONE_BYTES = search rules in
    let part : is_whole zone c.loop-end.start ≡ false =
    false_from_ne_true (is_whole zone c.loop-end.start) c.in_default.ensures.end in
    sym c.loop-end.invariant.1 ∙ starts_unfinished-rest zone long c.loop-end.start part
