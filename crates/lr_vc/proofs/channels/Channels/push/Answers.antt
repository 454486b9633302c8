use Rattle.std.proofs.Common.{◌≡◌, ◌<◌, ◌++◌, length, length-append, ap, ◌∙◌, sym, subst, arith, rules}
use Rattle.lr_bits.specs.declared.sizes.TheConstants.{CHANNELS, FILL_CHANNEL, ZONE_BYTES}
use Rattle.lr_vc.specs.Reading.{fields}
use Rattle.lr_vc.specs.Standing.{KeptChannels, ChannelsStandFor, kept_at}
use Rattle.lr_vc.proofs.Lists.{append_none}
use Rattle.lr_vc.specs.Steps.{packets_with, met_by}
use Rattle.lr_vc.proofs.Few.{few_packets}
use Rattle.lr_vc.proofs.History.{packets_at-fill}
use Rattle.lr_vc.proofs.Stands.{at_ok, stands_fill, stands_next, packets_next}
use Rattle.lr_vc.proofs.channels.Channels.push.Goals as goal

pub returns-then-frame-eq-FILL_CHANNEL-clause-stands : goal.returns-then-frame-eq-FILL_CHANNEL-clause-stands
returns-then-frame-eq-FILL_CHANNEL-clause-stands c =
    let long : length c.args.frame.now.zone ≡ ZONE_BYTES = search rules in
    λ history h. stands_fill c.args.self.now history (fields c.args.frame.now) c.if-frame-eq-FILL_CHANNEL.true long h

pub returns-then-frame-eq-FILL_CHANNEL-clause-packets : goal.returns-then-frame-eq-FILL_CHANNEL-clause-packets
returns-then-frame-eq-FILL_CHANNEL-clause-packets c =
    λ history _. append_none c.args.packets.now.items _ (packets_at-fill history
    (fields c.args.frame.now) c.if-frame-eq-FILL_CHANNEL.true)

pub returns-clause-stands : goal.returns-clause-stands
returns-clause-stands c =
    let f = fields c.args.frame.now in
    let long : length c.args.frame.now.zone ≡ ZONE_BYTES = search rules in
    let fits : c.args.frame.now.vc < CHANNELS = c.args.frame.now.vc_fits in
    let below : c.args.frame.now.vc < FILL_CHANNEL = omega (arith, c.if-frame-eq-FILL_CHANNEL.false) in
    let none = sym c.is_err.ensures.value ∙ c.if-is_err.false in
    let old : KeptChannels = record { spent = c.self.inside.spent; channels = c.self.inside.channels.items } in
    let new : KeptChannels = record { spent = c.self.inside.spent; channels = c.push_to_channel.new.channels.items } in
    λ history h.
    stands_next old new history f below long c.if-self.false
    (at_ok c.push_to_channel.result none c.push_to_channel.ensures.own)
    c.push_to_channel.ensures.others
    (subst (λ k. ChannelsStandFor k history) (sym c.self.view_is) h)

pub returns-clause-packets : goal.returns-clause-packets
returns-clause-packets c =
    let f = fields c.args.frame.now in
    let long : length c.args.frame.now.zone ≡ ZONE_BYTES = search rules in
    let fits : c.args.frame.now.vc < CHANNELS = c.args.frame.now.vc_fits in
    let below : c.args.frame.now.vc < FILL_CHANNEL = omega (arith, c.if-frame-eq-FILL_CHANNEL.false) in
    let none = sym c.is_err.ensures.value ∙ c.if-is_err.false in
    let old : KeptChannels = record { spent = c.self.inside.spent; channels = c.self.inside.channels.items } in
    λ history h.
    at_ok c.push_to_channel.result none c.push_to_channel.ensures.packets
    ∙ ap (λ ps. c.args.packets.now.items ++ ps) (packets_next old history f below long
    (subst (λ k. ChannelsStandFor k history) (sym c.self.view_is) h))

pub returns-clause-few : goal.returns-clause-few
returns-clause-few c =
    let f = fields c.args.frame.now in
    let none = sym c.is_err.ensures.value ∙ c.if-is_err.false in
    let kept = kept_at c.self.inside.channels.items f.vc in
    let more = packets_with f (met_by kept f.counter) in
    let all = at_ok c.push_to_channel.result none c.push_to_channel.ensures.packets in
    let few = few_packets f kept f.counter in
    omega (arith, ap length all, length-append c.args.packets.now.items more, few)
