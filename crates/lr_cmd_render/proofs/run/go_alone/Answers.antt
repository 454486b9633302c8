use Rattle.lr_cmd_render.proofs.Driven.{comes_to}
use Rattle.lr_cmd_render.proofs.run.go_alone.Goals as goal

pub drive_alone-requires-clause-ready : goal.drive_alone-requires-clause-ready
drive_alone-requires-clause-ready g c κs within = (c.args.entries.now, c.requires.begins)

pub returns : goal.returns
returns g c =
    let e = c.drive_alone.ensures in
    comes_to g.D.Disk g.O.Sink g.met.D.Disk.only_now g.met.D.Disk.reads_none
    g.met.D.Disk.reads_on _ _ c.drive_alone.result
    (e.all c.args.entries.now c.requires.begins) (e.stopped c.args.entries.now c.requires.begins)
