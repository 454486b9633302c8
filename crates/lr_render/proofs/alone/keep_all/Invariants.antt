use Rattle.std.proofs.Common.{◌≡◌, ◌-◌, length}
use Rattle.lr_render.specs.Plans.{planned_strips}
use Rattle.lr_render.proofs.alone.keep_all.Given as goal

-- what was given was kept
abbrev pub invariant-loop-strip : goal.invariant-loop-strip
invariant-loop-strip l = record {
  kept : l.plan.kept ≡ l.plan.given;
  file : l.plan.file ≡ l.fn.plan.file;
}

-- how many strips are left
abbrev pub decreases-loop-strip : goal.decreases-loop-strip
decreases-loop-strip l = length (planned_strips l.plan) - l.plan.given
