use Rattle.lr_cmd_print.specs.Decode.{decode_printed}
use Rattle.lr_cmd_print.proofs.DecodeText.{no_more_restored, decode_last_is}
use Rattle.lr_cmd_print.proofs.Lines.{all_put, last_stopped, all_printed}
use Rattle.lr_cmd_print.proofs.outcome_lines.decode_with.Goals as goal

pub put_last-requires : goal.put_last-requires
put_last-requires g c =
    let all = c.in-Ok.ensures.all c.requires.leads.0 c.requires.leads.1 in
    no_more_restored g.S.Source c.args.input c.args.most c.in-Ok.sums.0 c.in-Ok.sums.1 all.0 _ _ all.1 all.2

pub returns-in-Ok-put_last : goal.returns-in-Ok-put_last
returns-in-Ok-put_last g c workers leads =
    let all = c.in-Ok.ensures.all workers leads in
    rw c.cause_at.ensures
    (all_printed g.S.Source g.O.Sink (decode_printed c.args.input workers c.args.most)
    c.in-Ok.sums.0.stop _ _ _ _
    (all_put g.S.Source g.O.Sink (decode_printed c.args.input workers c.args.most) all.1 all.3
    (decode_last_is g.S.Source c.args.input c.args.most c.in-Ok.sums.0 c.in-Ok.sums.1 all.0 _ _ all.1 all.2)
    c.in-Ok-put_last.ensures.put))

pub returns-in-Err-put_last : goal.returns-in-Err-put_last
returns-in-Err-put_last g c workers leads =
    let all = c.in-Ok.ensures.all workers leads in
    last_stopped g.S.Source g.O.Sink (decode_printed c.args.input workers c.args.most) all.1 all.3
    (decode_last_is g.S.Source c.args.input c.args.most c.in-Ok.sums.0 c.in-Ok.sums.1 all.0 _ _ all.1 all.2)
    all.4 c.put_last.new.out _ c.in-Err-put_last.ensures.stopped
