use Rattle.std.proofs.Common.{◌+◌, ◌*◌}
use Rattle.lr_lanes.proofs.Branches.{branches, get_or-branches}
use Rattle.lr_lanes.proofs.lanes.level_1_costs.Goals as goal

pub returns-clause-value : goal.returns-clause-value
unfolding branches
returns-clause-value c = get_or-branches (λ k. 2 * k + 1) c.args.costs c.requires
