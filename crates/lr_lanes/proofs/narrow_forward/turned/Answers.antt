use Rattle.lr_lanes.proofs.LaneOrder.{turned_lanes, turned_at}
use Rattle.lr_lanes.proofs.narrow_forward.turned.Goals as goal

pub returns-clause-value : goal.returns-clause-value
unfolding turned_lanes
returns-clause-value c = turned_at c.args.lanes c.requires
