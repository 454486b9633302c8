use Rattle.std.proofs.Common.{length}
use Rattle.lr_rounds.specs.JobSources.{Led}
use Rattle.lr_render.specs.declared.strip.StripSource.{StripSource}
use Rattle.lr_cmd_render.specs.Leading.{RenderGoes, PutsImages, images_under_way}
use Rattle.lr_cmd_render.proofs.render_source.RenderSource.put_complete.Given as goal

abbrev pub invariant-loop-plan : goal.invariant-loop-plan
invariant-loop-plan g l = record {
  goes : (led : Led _ StripSource) → RenderGoes g.D.Disk g.O.Sink led l.fn.self
      → RenderGoes g.D.Disk g.O.Sink led l.self;
  put : PutsImages l.fn.self l.self;
}

abbrev pub decreases-loop-plan : goal.decreases-loop-plan
decreases-loop-plan g l = length (images_under_way l.self)
