use Rattle.std.proofs.Common.{refl, subst}
use Rattle.std.proofs.lemmas.Result.{err_from_is_err_and}
use Rattle.lr_reading.specs.Arrivals.{HasWholeFrame}
use Rattle.lr_bits.specs.declared.outcome.Outcome.{Outcome}
use Rattle.lr_cmd_print.proofs.PacketsGoOn.{packets_lost, packets_put, packets_stopped}
use Rattle.lr_cmd_print.proofs.packet_lines.PacketLinesConsumer.take.Goals as goal

pub returns-in_default-clause-takes : goal.returns-in_default-clause-takes
returns-in_default-clause-takes g c = λ before arrivals took.
    packets_lost g.O.Sink took c.args.arrival.now _ c.in_default.is

pub returns-in_err-put_frame-clause-stops : goal.returns-in_err-put_frame-clause-stops
returns-in_err-put_frame-clause-stops g c = λ before arrivals took.
    let p = err_from_is_err_and c.from_residual.result c.from_residual.ensures.1 in
    let whole = subst (λ (o : Outcome). HasWholeFrame o) c.in-Restored.is c.requires.whole in
    rw (p.1, p.2)
    (packets_stopped g.O.Sink took c.args.arrival.now _ _ c.in-Restored.is whole _ _ refl
    (c.in_err-put_frame.ensures.stopped _ took.after))

pub returns-clause-takes : goal.returns-clause-takes
returns-clause-takes g c = λ before arrivals took.
    let e = c.in_ok-put_frame.ensures in
    let whole = subst (λ (o : Outcome). HasWholeFrame o) c.in-Restored.is c.requires.whole in
    packets_put g.O.Sink took c.args.arrival.now _ _ c.in-Restored.is whole _ refl (e.stands _ took.after) e.few
    (e.put _ took.after)
