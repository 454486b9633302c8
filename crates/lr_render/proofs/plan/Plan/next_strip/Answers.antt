use Rattle.std.proofs.Common.{subst}
use Rattle.std.specs.Prelude.{IfOk}
use Rattle.lr_render.specs.Plans.{GivesNext, PlanView}
use Rattle.lr_render.specs.Standing.{plan_view}
use Rattle.lr_render.proofs.Planning.{given_next, given_plan}
use Rattle.lr_render.proofs.plan.Plan.next_strip.Goals as goal

pub invariant_of-self : goal.invariant_of-self
invariant_of-self c = given_plan c.self.invariant c.next.result c.next.new.self c.next.ensures.ok c.next.ensures.err

pub returns-clause-ok : goal.returns-clause-ok
returns-clause-ok c =
    let in' = c.self.inside in
    subst (λ (v : PlanView). IfOk c.next.result (GivesNext v (plan_view in'.file in'.layout c.next.new.self
    in'.keeping))) c.self.view_is
    (given_next c.self.invariant c.next.result c.next.new.self c.next.ensures.ok)
