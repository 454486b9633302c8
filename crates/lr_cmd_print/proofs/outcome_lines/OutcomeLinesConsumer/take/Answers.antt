use Rattle.std.proofs.Common.{◌∷◌, [], arith, length-append}
use Rattle.std.proofs.lemmas.Result.{err_from_is_err_and}
use Rattle.lr_cmd_print.specs.OutcomeLines.{outcome_text, text_of_outcomes}
use Rattle.lr_cmd_print.proofs.Lines.{all_but_one}
use Rattle.lr_cmd_print.proofs.DecodeText.{text_put, text_stopped, restored_more}
use Rattle.lr_cmd_print.proofs.outcome_lines.OutcomeLinesConsumer.take.Goals as goal

pub returns-in_err-put_outcome-clause-stops : goal.returns-in_err-put_outcome-clause-stops
returns-in_err-put_outcome-clause-stops g c = λ before arrivals took.
    let p = err_from_is_err_and c.from_residual.result c.from_residual.ensures.1 in
    rw (p.1, p.2)
    (record {
      same_out = took.same_out;
      stops = text_stopped g.O.Sink took c.args.arrival.now c.put_outcome.new.out _
          c.in_err-put_outcome.ensures.stopped;
      others = all_but_one g.O.Sink (λ l. text_of_outcomes l) arrivals before.out.now c.args.arrival.now
          (outcome_text c.args.self.now.outcomes c.args.arrival.now.position c.args.arrival.now.outcome)
          c.args.self.now.out.now c.put_outcome.new.out took.put _ c.in_err-put_outcome.ensures.stopped;
    })

pub returns-clause-takes : goal.returns-clause-takes
returns-clause-takes g c = λ before arrivals took. record {
  same_out = took.same_out;
  count = omega (arith, took.count, length-append arrivals (c.args.arrival.now ∷ []));
  restored = restored_more arrivals c.args.arrival.now c.args.self.now.restored c.count_restored-self.result
      took.restored c.count_restored-self.ensures;
  put = text_put g.O.Sink took c.args.arrival.now c.put_outcome.new.out c.in_ok-put_outcome.ensures.put;
}
