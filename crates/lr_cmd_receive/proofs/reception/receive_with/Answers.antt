use Rattle.std.proofs.Common.{Result, IfErr, subst}
use Rattle.lr_shelf.specs.Load.{IsLoadRefusal}
use Rattle.lr_shelf.specs.declared.shelf.Shelf.{Shelf}
use Rattle.lr_shelf.specs.declared.error.ShelfError.{ShelfError}
use Rattle.lr_cmd_receive.specs.Receive.{receive_query}
use Rattle.lr_refusals.proofs.Answering.{given, refused}
use Rattle.lr_cmd_receive.proofs.Unloaded.{not_loaded, loaded_run}
use Rattle.lr_causes.specs.Outside.{outside, world_of}
use Rattle.lr_cmd_receive.proofs.reception.receive_with.Goals as goal

pub returns-in-Err : goal.returns-in-Err
returns-in-Err g c input workers most leads =
    let so = refused c.load.result c.shelf_answer.result c.shelf_answer.ensures c.in-Err.refused c.in-Err.is in
    rw so.2
    (not_loaded (world_of g.S.Source g.D.Disk g.O.Sink) (receive_query c.args.mend input workers most)
    (outside c.args.source.now c.args.disk.now c.args.out.now) c.load.new.disk c.load.result
    c.load.ensures so.0 so.1
    (subst (λ (r : Result Shelf ShelfError). IfErr r (IsLoadRefusal g.D.Disk c.args.disk.now)) so.1
    c.load.ensures.refused))

pub returns-in-Ok : goal.returns-in-Ok
returns-in-Ok g c input workers most leads =
    loaded_run (world_of g.S.Source g.D.Disk g.O.Sink) (receive_query c.args.mend input workers most)
    (outside c.args.source.now c.args.disk.now c.args.out.now) c.load.new.disk c.load.result
    c.load.ensures g.met.D.Disk.only_now c.in-Ok.shelf
    (given c.load.result c.shelf_answer.result c.shelf_answer.ensures c.in-Ok.shelf c.in-Ok.is)
    (outside c.receive_onto.new.source
    c.receive_onto.new.disk c.receive_onto.new.out) _
    (c.receive_onto.ensures input workers most leads)
