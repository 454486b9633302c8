use Rattle.std.proofs.Common.{Result, subst, sym}
use Rattle.lr_causes.specs.declared.cause.Cause.{Cause}
use Rattle.lr_cmd_render.specs.Driven.{RenderComesTo}
use Rattle.lr_cmd_render.proofs.Driven.{comes_by}
use Rattle.lr_cmd_render.proofs.run.go_by_all.Goals as goal

pub drive-requires-after_bounds : goal.drive-requires-after_bounds
drive-requires-after_bounds g c κs within = (c.args.entries.now, c.requires)

pub returns : goal.returns
returns g c =
    subst (λ (answer : Result (Unit {0}) Cause). RenderComesTo g.D.Disk g.O.Sink answer c.args.entries.now
    c.drive.new.source) (sym c.driven.ensures)
    (comes_by g.D.Disk g.O.Sink g.met.D.Disk.only_now g.met.D.Disk.reads_none g.met.D.Disk.reads_on
    c.args.entries.now c.drive.new.source c.drive.result (c.drive.ensures.all c.args.entries.now c.requires)
    (c.drive.ensures.undriven c.args.entries.now c.requires))
