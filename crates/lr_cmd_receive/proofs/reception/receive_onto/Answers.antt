use Rattle.lr_cmd_receive.proofs.ReceiveEnding.{ended_some, last_stopped, all_put}
use Rattle.lr_causes.specs.Outside.{outside, world_of}
use Rattle.lr_cmd_receive.specs.Receive.{receive_query}
use Rattle.lr_cmd_receive.proofs.reception.receive_onto.Goals as goal

pub returns-in-Err : goal.returns-in-Err
returns-in-Err g c input workers most leads =
    ended_some (world_of g.S.Source g.D.Disk g.O.Sink) (receive_query c.args.mend input workers most)
    c.args.shelf.now
    (outside c.args.source.now c.args.disk.now c.args.out.now)
    (outside c.receive_all.new.source c.receive_all.new.disk c.receive_all.new.out) _
    (c.in-Err.ensures.some input workers most leads)

pub returns-in-Ok-put_last : goal.returns-in-Ok-put_last
returns-in-Ok-put_last g c input workers most leads =
    rw c.cause_at.ensures
    (all_put (world_of g.S.Source g.D.Disk g.O.Sink) (receive_query c.args.mend input workers most)
    c.args.shelf.now
    (outside c.args.source.now c.args.disk.now c.args.out.now)
    (outside c.receive_all.new.source c.receive_all.new.disk c.receive_all.new.out) c.in-Ok.sums
    c.receive_all.new.shelf (c.in-Ok.ensures.all input workers most leads) c.put_last.new.out
    c.in-Ok-put_last.ensures.put)

pub returns-in-Err-put_last : goal.returns-in-Err-put_last
returns-in-Err-put_last g c input workers most leads =
    last_stopped (world_of g.S.Source g.D.Disk g.O.Sink) (receive_query c.args.mend input workers most)
    c.args.shelf.now
    (outside c.args.source.now c.args.disk.now c.args.out.now)
    (outside c.receive_all.new.source c.receive_all.new.disk c.receive_all.new.out) c.in-Ok.sums
    c.receive_all.new.shelf (c.in-Ok.ensures.all input workers most leads) c.put_last.new.out _
    c.in-Err-put_last.ensures.stopped
