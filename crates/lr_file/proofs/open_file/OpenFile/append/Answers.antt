use Rattle.std.proofs.Common.{◌≤◌, ◌<◌, length, IsTrue, sym, subst, arith, ◌+◌}
use Rattle.lr_bits.specs.Sizes.{most_body_bytes}
use Rattle.lr_packet.specs.Reading.{good}
use Rattle.lr_file.specs.Standing.{Open}
use Rattle.lr_file.specs.Steps.{is_next}
use Rattle.lr_file.proofs.OpenLemmas.{limits-lengths, limits-file_with}
use Rattle.lr_file.proofs.open_file.OpenFile.append.Goals as goal

pub invariant_of-self-in_err-extend : goal.invariant_of-self-in_err-extend
invariant_of-self-in_err-extend c =
    let p = good c.args.packet.now in
    let parts = c.self.inside in
    let file : Open = record { lengths = parts.lengths; bytes = parts.bytes; count = parts.count } in
    let next = subst (λ (file : Open). IsTrue (is_next file p)) (sym c.self.view_is) c.requires in
    let short : length c.args.packet.now.body.now ≤ most_body_bytes = omega (arith, c.args.packet.now.body_fits) in
    rw (c.in_ok-push.ensures.ok, c.in_err-extend.ensures.err) (limits-lengths file p short next c.self.invariant)

pub invariant_of-self-2 : goal.invariant_of-self-2
invariant_of-self-2 c =
    let p = good c.args.packet.now in
    let parts = c.self.inside in
    let file : Open = record { lengths = parts.lengths; bytes = parts.bytes; count = parts.count } in
    let next = subst (λ (file : Open). IsTrue (is_next file p)) (sym c.self.view_is) c.requires in
    let short : length c.args.packet.now.body.now ≤ most_body_bytes = omega (arith, c.args.packet.now.body_fits) in
    rw (c.in_ok-push.ensures.ok, c.in_ok-extend.ensures.ok)
    (limits-file_with file p short c.args.packet.now.count_fits next c.self.invariant)
