use Rattle.lr_causes.specs.Outside.{outlets, outlets_of}
use Rattle.lr_cmd_render.proofs.Rendered.{has_rendered}
use Rattle.lr_cmd_render.proofs.run.render.Goals as goal

pub returns-clause-rendered : goal.returns-clause-rendered
returns-clause-rendered g c =
    has_rendered (outlets_of g.D.Disk g.O.Sink) (outlets c.args.disk.now c.args.out.now)
    (outlets c.render_with.new.disk c.render_with.new.out) c.render_with.result c.render_with.ensures
