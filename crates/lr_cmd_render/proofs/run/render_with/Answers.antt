use Rattle.lr_refusals.specs.Errors.{cause_of}
use Rattle.lr_refusals.proofs.Answering.{error_is, given, refused}
use Rattle.lr_causes.specs.declared.cause.Cause.TheVariants.{NoMemory}
use Rattle.lr_cmd_render.specs.Render.{render_query}
use Rattle.lr_cmd_shelf.specs.Sights.{each_sight}
use Rattle.lr_cmd_shelf.proofs.Loading.{not_started, not_loaded, loaded, over}
use Rattle.lr_cmd_render.proofs.run.render_with.Goals as goal

pub returns-in-Err : goal.returns-in-Err
returns-in-Err g c =
    rw c.from.ensures
    (over g.D.Disk g.O.Sink render_query each_sight c.args.disk.now c.args.disk.now c.args.out.now c.args.out.now
    NoMemory
    (not_started g.D.Disk g.O.Sink render_query g.met.D.Disk.only_now c.args.disk.now
    (g.met.D.Disk.reads_none c.args.disk.now) c.args.out.now))

pub returns-in-Err-shelf_answer : goal.returns-in-Err-shelf_answer
returns-in-Err-shelf_answer g c =
    let so = refused c.load.result c.shelf_answer.result c.shelf_answer.ensures c.in-Err-shelf_answer.cause
    c.in-Err-shelf_answer.is in
    rw so.2
    (over g.D.Disk g.O.Sink render_query each_sight c.args.disk.now c.load.new.disk c.args.out.now c.args.out.now
    (cause_of so.0)
    (not_loaded g.D.Disk g.O.Sink render_query c.args.disk.now c.load.new.disk c.args.out.now c.load.result
    c.load.ensures so.0 so.1 (error_is _ c.load.result so.0 so.1 c.load.ensures.refused)))

pub returns : goal.returns
returns g c =
    over g.D.Disk g.O.Sink render_query each_sight c.args.disk.now c.render_entries.new.disk c.args.out.now
    c.render_entries.new.out c.render_entries.result
    (loaded g.D.Disk g.O.Sink render_query c.args.disk.now c.load.new.disk c.args.out.now c.load.result
    c.load.ensures c.in-Ok-shelf_answer.shelf
    (given c.load.result c.shelf_answer.result c.shelf_answer.ensures c.in-Ok-shelf_answer.shelf
    c.in-Ok-shelf_answer.is) g.met.D.Disk.reads_on c.render_entries.new.disk
    c.render_entries.new.out
    c.render_entries.result c.render_entries.ensures)
