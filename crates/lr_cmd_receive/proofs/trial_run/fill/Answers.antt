use Rattle.lr_cmd_receive.proofs.Tried.{last_stops, last_put, stream_stops}
use Rattle.lr_cmd_receive.proofs.trial_run.fill.Goals as goal

pub returns-in-Err-put_last : goal.returns-in-Err-put_last
returns-in-Err-put_last g c =
    last_stops g.D.Disk g.O.Sink c.args.symbols.items c.args.disk.now c.shelve_stream.new.disk c.args.out.now
    c.put_last.new.out c.in-Ok.ensures.done c.in-Ok.sums c.in-Ok.ensures.line c.in-Err-put_last.cause
    c.in-Err-put_last.ensures.stopped

pub returns-in-Err : goal.returns-in-Err
returns-in-Err g c =
    stream_stops g.D.Disk g.O.Sink c.args.symbols.items c.args.disk.now c.shelve_stream.new.disk c.args.out.now
    c.in-Err.cause c.in-Err.ensures.stopped

pub returns-in-Ok-put_last : goal.returns-in-Ok-put_last
returns-in-Ok-put_last g c =
    last_put g.D.Disk g.O.Sink c.args.symbols.items c.args.disk.now c.shelve_stream.new.disk c.args.out.now
    c.put_last.new.out c.in-Ok.ensures.done c.in-Ok.sums c.in-Ok.ensures.line c.in-Ok-put_last.ensures.put
