use Rattle.lr_cmd_print.specs.Frames.{frames_printed}
use Rattle.lr_cmd_print.proofs.FramesGoOn.{frames_last_is, none_first}
use Rattle.lr_cmd_print.proofs.Lines.{all_put, err_so, last_stopped, none_read}
use Rattle.lr_cmd_print.proofs.frame_lines.put_frames.Goals as goal

pub returns-in_err-reader-clause-stopped : goal.returns-in_err-reader-clause-stopped
returns-in_err-reader-clause-stopped g c =
    err_so _ c.from_residual.result c.from_residual.ensures.1
    (none_read g.S.Source g.O.Sink (frames_printed c.args.most) none_first c.args.source.now c.args.out.now)

pub returns-in_err-put_last-clause-stopped : goal.returns-in_err-put_last-clause-stopped
returns-in_err-put_last-clause-stopped g c =
    let all = rw c.in_ok-reader.ensures at c.in_ok-totals.ensures.all in
    err_so _ c.from_residual-in_err-put_last.result c.from_residual-in_err-put_last.ensures.1
    (last_stopped g.S.Source g.O.Sink (frames_printed c.args.most) all.1 all.2
    (frames_last_is g.S.Source c.args.most c.in_ok-totals.totals all.0 _ _ all.1) all.3 c.put_last.new.out _
    c.in_err-put_last.ensures.stopped)

pub returns-clause-all : goal.returns-clause-all
returns-clause-all g c =
    let all = rw c.in_ok-reader.ensures at c.in_ok-totals.ensures.all in
    all_put g.S.Source g.O.Sink (frames_printed c.args.most) all.1 all.2
    (frames_last_is g.S.Source c.args.most c.in_ok-totals.totals all.0 _ _ all.1) c.in_ok-put_last.ensures.put
