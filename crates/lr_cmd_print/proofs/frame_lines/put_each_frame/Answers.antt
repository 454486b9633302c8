use Rattle.std.proofs.Common.{rules, refl}
use Rattle.std.proofs.lemmas.Result.{err_from_is_err_and}
use Rattle.lr_cmd_print.proofs.FramesGoOn.{frames_begun, frames_put, frames_stopped}
use Rattle.lr_cmd_print.proofs.frame_lines.put_each_frame.Goals as goal

pub read_alone-requires-clause-ready : goal.read_alone-requires-clause-ready
read_alone-requires-clause-ready g c κs within = (_, frames_begun g.O.Sink _ refl)

pub returns-in_err-totals-clause-stopped : goal.returns-in_err-totals-clause-stopped
returns-in_err-totals-clause-stopped g c =
    let p = err_from_is_err_and c.from_residual.result c.from_residual.ensures.1 in
    let t = frames_stopped g.O.Sink g.S.Source c.args.reader.most refl _
    (rw c.requires.input at c.in_err-totals.ensures) in
    let same = t.0 in
    let stops = t.1 in
    rw (p.1, p.2) (search rules)

pub returns-clause-all : goal.returns-clause-all
returns-clause-all g c =
    let t = frames_put g.O.Sink g.S.Source c.args.reader.most refl
    (rw c.requires.input at c.in_ok-totals.ensures) in
    let same = t.0 in
    let all = t.1 in
    search rules
