use Rattle.lr_causes.specs.declared.cause.Cause.TheVariants.{NoMemory}
use Rattle.lr_causes.specs.Causes.{done_with}
use Rattle.lr_refusals.proofs.Answering.{error_is, given, refused}
use Rattle.lr_cmd_shelf.proofs.Loading.{loaded_gathers, not_loaded_gathers, not_started, over_gathers}
use Rattle.lr_cmd_shelf.proofs.run.run_entries.Goals as goal

pub returns-in-Err : goal.returns-in-Err
returns-in-Err g c =
    let query = g.C.ReadsEntries.query c.args.command.now in
    let images = g.met.C.ReadsEntries.sight c.args.command.now in
    rw c.from.ensures
    (over_gathers g.D.Disk g.O.Sink query images c.args.disk.now c.args.disk.now c.args.out.now c.args.out.now
    (g.C.ReadsEntries.gathers c.args.command.now) NoMemory (λ done. done)
    (not_started g.D.Disk g.O.Sink query g.met.D.Disk.only_now c.args.disk.now
    (g.met.D.Disk.reads_none c.args.disk.now) c.args.out.now))

pub returns-in-Err-shelf_answer : goal.returns-in-Err-shelf_answer
returns-in-Err-shelf_answer g c =
    let so = refused c.load.result c.shelf_answer.result c.shelf_answer.ensures c.in-Err-shelf_answer.cause
    c.in-Err-shelf_answer.is in
    rw so.2
    (not_loaded_gathers g.D.Disk g.O.Sink (g.C.ReadsEntries.query c.args.command.now) c.args.disk.now c.load.new.disk
    c.args.out.now c.load.result c.load.ensures (g.met.C.ReadsEntries.sight c.args.command.now)
    (g.C.ReadsEntries.gathers c.args.command.now)
    so.0 so.1 (error_is _ c.load.result so.0 so.1 c.load.ensures.refused))

pub returns-in-Ok-take_entries : goal.returns-in-Ok-take_entries
returns-in-Ok-take_entries g c =
    let note = c.in-Ok-take_entries.note in
    rw c.done_with.ensures
    (loaded_gathers g.D.Disk g.O.Sink (g.C.ReadsEntries.query c.args.command.now) c.args.disk.now c.load.new.disk
    c.args.out.now c.load.result c.load.ensures c.in-Ok-shelf_answer.shelf
    (given c.load.result c.shelf_answer.result c.shelf_answer.ensures c.in-Ok-shelf_answer.shelf
    c.in-Ok-shelf_answer.is) (g.met.C.ReadsEntries.sight c.args.command.now) g.met.D.Disk.reads_on
    c.take_entries.new.disk c.take_entries.new.out (done_with note) (g.C.ReadsEntries.gathers c.args.command.now)
    c.in-Ok-take_entries.ensures.takes)

pub returns : goal.returns
returns g c =
    loaded_gathers g.D.Disk g.O.Sink (g.C.ReadsEntries.query c.args.command.now) c.args.disk.now c.load.new.disk
    c.args.out.now c.load.result c.load.ensures c.in-Ok-shelf_answer.shelf
    (given c.load.result c.shelf_answer.result c.shelf_answer.ensures c.in-Ok-shelf_answer.shelf
    c.in-Ok-shelf_answer.is) (g.met.C.ReadsEntries.sight c.args.command.now) g.met.D.Disk.reads_on
    c.take_entries.new.disk c.take_entries.new.out c.in-Err-take_entries.cause
    (g.C.ReadsEntries.gathers c.args.command.now) c.in-Err-take_entries.ensures.stops
