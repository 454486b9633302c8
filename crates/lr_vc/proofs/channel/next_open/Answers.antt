use Rattle.std.proofs.Common.{◌++◌, subst, ap, ◌∙◌, sym, append_assoc}
use Rattle.std.specs.Option.{option_to_list}
use Rattle.std.specs.List.{flat_map}
use Rattle.std.proofs.lemmas.Result.{IfOk-weaker, on_ok_weaker}
use Rattle.lr_vc.specs.Reading.{fields}
use Rattle.std.specs.Result.{IsOk}
use Rattle.lr_vc.specs.Steps.{completed_packet, packets_inside, packets_with, open_after}
use Rattle.lr_vc.proofs.Carried.{packets_with-late, packets_with-early, open_after-late, open_after-early}
use Rattle.lr_vc.proofs.ZoneStarts.{front_none, back_none, some_packet, at_is_inside, nowhere_is_outside}
use Rattle.lr_vc.proofs.ZoneStarts.{idle_is_outside}
use Rattle.lr_vc.proofs.channel.next_open.Goals as goal

pub returns-in-Nowhere-clause-packets : goal.returns-in-Nowhere-clause-packets
returns-in-Nowhere-clause-packets c =
    rw (packets_with-late (fields c.args.frame.now) (option_to_list c.args.met)
    (nowhere_is_outside _ (sym c.zone_start.ensures ∙ c.in-Nowhere.is))) c.in_ok-carried.ensures.packets

pub returns-in-Idle-clause-packets : goal.returns-in-Idle-clause-packets
returns-in-Idle-clause-packets c =
    rw (packets_with-late (fields c.args.frame.now) (option_to_list c.args.met)
    (idle_is_outside _ (sym c.zone_start.ensures ∙ c.in-Idle.is))) c.in_ok-carried.ensures.packets

pub returns-in-At-clause-packets : goal.returns-in-At-clause-packets
returns-in-At-clause-packets c =
    let f = fields c.args.frame.now in
    let early = at_is_inside f.pointer _ (sym c.zone_start.ensures ∙ c.in-At.is) in
    let old = c.args.packets.now.items in
    let met = option_to_list c.args.met in
    let inside = packets_inside f.vc f.zone f.pointer in
    let whole = packets_with-early f met early in
    on_ok_weaker c.open_inside.result
    (λ e. e ∙ ap (λ ps. ps ++ inside) c.in_ok-carried.ensures.packets
    ∙ append_assoc old (flat_map (completed_packet f.vc f.zone f.pointer) met) inside
    ∙ ap (λ ps. old ++ ps) (sym whole))
    c.open_inside.ensures.packets

pub returns-in-At-clause-open_packet : goal.returns-in-At-clause-open_packet
returns-in-At-clause-open_packet c =
    let f = fields c.args.frame.now in
    let early = at_is_inside f.pointer _ (sym c.zone_start.ensures ∙ c.in-At.is) in
    let whole = open_after-early f (option_to_list c.args.met) early in
    IfOk-weaker c.open_inside.result _ _ (λ o e. e ∙ sym whole) c.open_inside.ensures.open_packet

pub returns-in-Nowhere-clause-open_packet : goal.returns-in-Nowhere-clause-open_packet
returns-in-Nowhere-clause-open_packet c =
    rw (open_after-late (fields c.args.frame.now) (option_to_list c.args.met)
    (nowhere_is_outside _ (sym c.zone_start.ensures ∙ c.in-Nowhere.is))) c.in_ok-carried.ensures.open_packet

pub returns-in-Idle-clause-open_packet : goal.returns-in-Idle-clause-open_packet
returns-in-Idle-clause-open_packet c =
    rw (open_after-late (fields c.args.frame.now) (option_to_list c.args.met)
    (idle_is_outside _ (sym c.zone_start.ensures ∙ c.in-Idle.is))) c.in_ok-carried.ensures.open_packet

pub open_inside-requires : goal.open_inside-requires
open_inside-requires c = at_is_inside c.args.frame.now.pointer _ (sym c.zone_start.ensures ∙ c.in-At.is)

pub returns-in_err-carried-clause-succeeds : goal.returns-in_err-carried-clause-succeeds
unfolding packets_with open_after
returns-in_err-carried-clause-succeeds c none open_none =
    let ok = c.carry_met.ensures.succeeds (front_none _ _ none) (front_none _ _ open_none) in
    absurd (cc (subst (λ r. IsOk r) c.in_err-carried.was ok))

pub returns-in-At-clause-succeeds : goal.returns-in-At-clause-succeeds
returns-in-At-clause-succeeds c none open_none =
    let f = fields c.args.frame.now in
    let met = option_to_list c.args.met in
    let early = at_is_inside f.pointer _ (sym c.zone_start.ensures ∙ c.in-At.is) in
    absurd (some_packet f.zone f.vc f.pointer early
    (back_none (flat_map (completed_packet f.vc f.zone f.pointer) met) _
    (sym (packets_with-early f met early) ∙ none))
    (sym (open_after-early f met early) ∙ open_none))
