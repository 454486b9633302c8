use Rattle.std.proofs.Common.{◌<◌, sym, subst}
use Rattle.lr_render.specs.Plans.{IsStripAt, PlanView}
use Rattle.lr_render.proofs.Planning.{can_count, kept_or_not}
use Rattle.lr_render.proofs.plan.Plan.keep.Goals as goal

pub take-requires-clause-cut : goal.take-requires-clause-cut
take-requires-clause-cut c = c.self.invariant.cut

pub take-requires-clause-count : goal.take-requires-clause-count
take-requires-clause-count c = can_count c.self.invariant c.args.strip
    (subst (λ (v : PlanView). IsStripAt v v.kept c.args.strip) (sym c.self.view_is) c.requires.oldest)

pub invariant_of-self : goal.invariant_of-self
invariant_of-self c = kept_or_not c.self.invariant c.args.strip
    (subst (λ (v : PlanView). IsStripAt v v.kept c.args.strip) (sym c.self.view_is) c.requires.oldest) c.take.result
    c.take.new.self (subst (λ (v : PlanView). v.kept < v.given) (sym c.self.view_is) c.requires.given)
    c.take.ensures.ok c.take.ensures.err
