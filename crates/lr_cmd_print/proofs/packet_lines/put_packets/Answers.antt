use Rattle.lr_cmd_print.specs.Packets.{packets_printed}
use Rattle.lr_cmd_print.proofs.Lines.{all_put, err_so, last_stopped, none_read}
use Rattle.lr_cmd_print.proofs.PacketsGoOn.{none_first}
use Rattle.lr_cmd_print.proofs.PacketsCounted.{packets_last_is}
use Rattle.lr_cmd_print.proofs.packet_lines.put_packets.Goals as goal

pub returns-in_err-reader-clause-stopped : goal.returns-in_err-reader-clause-stopped
returns-in_err-reader-clause-stopped g c =
    err_so _ c.from_residual.result c.from_residual.ensures.1
    (none_read g.S.Source g.O.Sink (packets_printed c.args.most) none_first c.args.source.now c.args.out.now)

pub returns-in_err-put_last-clause-stopped : goal.returns-in_err-put_last-clause-stopped
returns-in_err-put_last-clause-stopped g c =
    let all = rw c.in_ok-reader.ensures at c.in_ok-totals.ensures.all in
    err_so _ c.from_residual-in_err-put_last.result c.from_residual-in_err-put_last.ensures.1
    (last_stopped g.S.Source g.O.Sink (packets_printed c.args.most) all.1 all.3
    (packets_last_is g.S.Source c.args.most c.in_ok-totals.totals all.0 _ _ all.1) all.4 c.put_last.new.out _
    (c.in_err-put_last.ensures.stopped _ all.2))

pub returns-clause-all : goal.returns-clause-all
returns-clause-all g c =
    let all = rw c.in_ok-reader.ensures at c.in_ok-totals.ensures.all in
    all_put g.S.Source g.O.Sink (packets_printed c.args.most) all.1 all.3
    (packets_last_is g.S.Source c.args.most c.in_ok-totals.totals all.0 _ _ all.1)
    (c.in_ok-put_last.ensures.put _ all.2)
