use Rattle.std.proofs.Common.{subst, sym}
use Rattle.lr_causes.specs.declared.cause.Cause.{Cause}
use Rattle.lr_shelf.proofs.Loaded.{ready_loaded}
use Rattle.lr_refusals.proofs.Answering.{given, refused}
use Rattle.lr_causes.specs.Outside.{outside, world_of}
use Rattle.lr_cmd_downlinks.specs.Downlinks.{DownlinksRun}
use Rattle.lr_cmd_downlinks.proofs.Merging.{whole_run}
use Rattle.lr_cmd_downlinks.proofs.Untaken.{not_loaded, not_taken}
use Rattle.lr_cmd_downlinks.proofs.run.downlinks.Goals as goal

pub returns-in-Err : goal.returns-in-Err
returns-in-Err g c =
    let so = refused c.load.result c.shelf_answer.result c.shelf_answer.ensures c.in-Err.cause c.in-Err.is in
    subst (λ (cause : Cause). DownlinksRun (world_of g.S.Source g.D.Disk g.O.Sink) c.args.line cause
    (outside c.args.source.now c.args.disk.now c.args.out.now)
    (outside c.args.source.now c.load.new.disk c.args.out.now)) (sym so.2)
    (not_loaded g.S.Source g.D.Disk g.O.Sink c.args.line c.args.source.now c.args.disk.now c.load.new.disk
    c.args.out.now c.load.result c.load.ensures so.0 so.1)

pub returns-in-Err-take_bundle : goal.returns-in-Err-take_bundle
returns-in-Err-take_bundle g c =
    not_taken g.S.Source g.D.Disk g.O.Sink c.args.line c.args.source.now c.take_bundle.new.source c.args.disk.now
    c.load.new.disk c.args.out.now c.in-Ok.shelf
    (ready_loaded g.D.Disk c.args.disk.now c.load.new.disk c.load.result c.in-Ok.shelf c.load.ensures
    (given c.load.result c.shelf_answer.result c.shelf_answer.ensures c.in-Ok.shelf c.in-Ok.is))
    c.in-Err-take_bundle.cause c.in-Err-take_bundle.ensures.refused

pub returns : goal.returns
returns g c =
    whole_run g.S.Source g.D.Disk g.O.Sink c.args.line c.args.source.now c.take_bundle.new.source c.args.disk.now
    c.load.new.disk c.run_downlinks-run.new.disk c.args.out.now c.tell_run.new.out c.in-Ok.shelf
    (ready_loaded g.D.Disk c.args.disk.now c.load.new.disk c.load.result c.in-Ok.shelf c.load.ensures
    (given c.load.result c.shelf_answer.result c.shelf_answer.ensures c.in-Ok.shelf c.in-Ok.is))
    c.in-Ok-take_bundle.bundle c.in-Ok-take_bundle.ensures.taken c.run_downlinks-run.result c.run_downlinks-run.ensures
    c.tell_run.result c.tell_run.ensures
