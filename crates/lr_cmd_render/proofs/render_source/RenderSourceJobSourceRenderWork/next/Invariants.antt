use Rattle.std.proofs.Common.{◌≤◌}
use Rattle.lr_rounds.specs.JobSources.{Led}
use Rattle.lr_render.specs.declared.strip.StripSource.{StripSource}
use Rattle.lr_cmd_render.specs.Leading.{Stands, jobs_left, reads_left}
use Rattle.lr_cmd_render.proofs.render_source.RenderSourceJobSourceRenderWork.next.Given as goal

abbrev pub invariant-entries : goal.invariant-entries
invariant-entries g l = record {
  stands : (led : Led _ StripSource) → Stands g.D.Disk g.O.Sink led l.fn.self → Stands g.D.Disk g.O.Sink led l.self;
  left : jobs_left l.self ≤ jobs_left l.fn.self;
}

abbrev pub decreases-entries : goal.decreases-entries
decreases-entries g l = reads_left l.self
