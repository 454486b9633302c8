use Rattle.std.proofs.Common.{◌+◌, subst, sym, ap, ◌∙◌}
use Rattle.std.proofs.lemmas.Result.{err_from_is_err_and}
use Rattle.std.specs.Result.{IsOk}
use Rattle.lr_causes.specs.Puts.{Puts, PutStops}
use Rattle.lr_cmd_print.proofs.PacketsCounted.{lines_are, counted_on}
use Rattle.lr_cmd_print.proofs.packet_lines.put_frame.Goals as goal

pub returns-in_err-put_text-clause-stopped : goal.returns-in_err-put_text-clause-stopped
returns-in_err-put_text-clause-stopped g c =
    λ frames after.
    let p = err_from_is_err_and c.from_residual-in_err-put_text.result c.from_residual-in_err-put_text.ensures.1 in
    let line = lines_are c.args.channels.now c.args.counted.now frames c.args.frame.now after
    c.clear.new.self.items c.read_packets.new.packets.items c.deref.result.now
    c.clear.ensures.items (c.in_ok-read_packets.ensures.packets frames after.stands) c.deref.ensures.value
    c.new-lines.result c.compose.new.lines c.as_slice.result.now c.new-lines.ensures c.in_ok-compose.ensures.lines
    c.as_slice.ensures in
    rw (p.1, p.2) (subst (λ l. PutStops g.O.Sink l c.in_err-put_text.field-0.0 c.args.out.now
    c.put_text.new.out) line c.in_err-put_text.ensures.stopped)

pub returns-clause-stands : goal.returns-clause-stands
returns-clause-stands g c =
    λ frames after.
    counted_on c.args.channels.now c.read_packets.new.channels c.args.counted.now _ frames c.args.frame.now
    after c.told-frame (c.in_ok-read_packets.ensures.stands frames after.stands)
    c.clear.new.self.items c.read_packets.new.packets.items c.deref-2.result.now c.clear.ensures.items
    (c.in_ok-read_packets.ensures.packets frames after.stands) c.deref-2.ensures.value
    (ap (λ k. c.args.counted.now.packets + k) (c.len.ensures ∙ sym c.deref-2.ensures.len))
    (ap (λ k. c.args.counted.now.good + k) c.count_good.ensures.good)

pub returns-clause-put : goal.returns-clause-put
returns-clause-put g c =
    λ frames after.
    let line = lines_are c.args.channels.now c.args.counted.now frames c.args.frame.now after
    c.clear.new.self.items c.read_packets.new.packets.items c.deref.result.now
    c.clear.ensures.items (c.in_ok-read_packets.ensures.packets frames after.stands) c.deref.ensures.value
    c.new-lines.result c.compose.new.lines c.as_slice.result.now c.new-lines.ensures c.in_ok-compose.ensures.lines
    c.as_slice.ensures in
    subst (λ l. Puts g.O.Sink l c.args.out.now c.put_text.new.out) line c.in_ok-put_text.ensures.put

pub returns-in_err-read_packets-clause-succeeds : goal.returns-in_err-read_packets-clause-succeeds
returns-in_err-read_packets-clause-succeeds g c bad =
    let ok = c.read_packets.ensures.succeeds bad in
    absurd (cc (subst (λ r. IsOk r) c.in_err-read_packets.was ok))

pub returns-in_err-compose-clause-succeeds : goal.returns-in_err-compose-clause-succeeds
returns-in_err-compose-clause-succeeds g c bad =
    let empty = c.deref.ensures.value ∙ c.in_ok-read_packets.ensures.none bad ∙ c.clear.ensures.items in
    let ok = c.compose.ensures.succeeds empty in
    absurd (cc (subst (λ r. IsOk r) c.in_err-compose.was ok))

pub returns-in_err-put_text-clause-succeeds : goal.returns-in_err-put_text-clause-succeeds
returns-in_err-put_text-clause-succeeds g c bad =
    let p = err_from_is_err_and c.from_residual-in_err-put_text.result c.from_residual-in_err-put_text.ensures.1 in
    rw (p.1, p.2) (λ is. absurd (cc (c.in_err-put_text.ensures.cause, is)))
