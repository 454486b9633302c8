use Rattle.std.proofs.Common.{rules, refl}
use Rattle.std.proofs.lemmas.Result.{err_from_is_err_and}
use Rattle.lr_cmd_print.proofs.DecodeText.{outcomes_ready, outcomes_put, outcomes_stopped}
use Rattle.lr_cmd_print.proofs.outcome_lines.put_each_outcome.Goals as goal

pub read-requires : goal.read-requires
read-requires g c = let ready = c.requires.ready in search (rules, outcomes_ready)

pub returns-in_err-totals-clause-stopped : goal.returns-in_err-totals-clause-stopped
returns-in_err-totals-clause-stopped g c workers leads =
    let p = err_from_is_err_and c.from_residual.result c.from_residual.ensures.1 in
    let t = outcomes_stopped g.O.Sink g.S.Source c.args.input c.args.most refl refl workers _
    (leads _ _ _ _ _ c.in_err-totals.ensures) in
    let same = t.0 in
    let stops = t.1 in
    rw (p.1, p.2) (search rules)

pub returns-clause-all : goal.returns-clause-all
returns-clause-all g c workers leads =
    let t = outcomes_put g.O.Sink g.S.Source c.args.input c.args.most refl refl workers
    (leads _ _ _ _ _ c.in_ok-totals.ensures) in
    let same = t.0 in
    let all = t.1 in
    search rules
