use Rattle.lr_lanes.proofs.LaneOrder.{twice, twice_at}
use Rattle.lr_lanes.proofs.narrow_lanes.lane_costs.Goals as goal

pub returns-clause-value : goal.returns-clause-value
unfolding twice
returns-clause-value c = twice_at c.args.costs c.requires
