use Rattle.std.proofs.Common.{◌≡◌, ◌+◌, length, arith, rules}
use Rattle.lr_bits.specs.declared.sizes.TheConstants.{ZONE_BYTES}
use Rattle.lr_vc.specs.Packets.{packet_end}
use Rattle.lr_vc.proofs.Starts.{packet_end_is, length_field, is_whole_true, is_whole_if}
use Rattle.lr_vc.proofs.zone.end_inside.Goals as goal

pub returns-then-start-gt-ZONE_BYTES-clause-end : goal.returns-then-start-gt-ZONE_BYTES-clause-end
returns-then-start-gt-ZONE_BYTES-clause-end c =
    let long : length c.args.zone.now ≡ ZONE_BYTES = search rules in
    λ e. let both = is_whole_true c.args.zone.now c.args.start e in omega (arith, both.0)

pub returns-then-not-inside-clause-end : goal.returns-then-not-inside-clause-end
returns-then-not-inside-clause-end c =
    let long : length c.args.zone.now ≡ ZONE_BYTES = search rules in
    let zone = c.args.zone.now in
    λ e. let both =
    is_whole_true zone c.args.start e in omega (
      arith,
      both.1,
      packet_end_is zone c.args.start,
      length_field zone c.args.start,
    )

pub returns-clause-end : goal.returns-clause-end
returns-clause-end c =
    let long : length c.args.zone.now ≡ ZONE_BYTES = search rules in
    let zone = c.args.zone.now in
    let same : c.args.start + 7 + c.length_of.result ≡ packet_end zone c.args.start =
    omega (arith, packet_end_is zone c.args.start, length_field zone c.args.start) in
    (is_whole_if zone c.args.start (omega arith) (omega arith), same)
