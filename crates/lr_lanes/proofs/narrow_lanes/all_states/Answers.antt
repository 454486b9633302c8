use Rattle.lr_lanes.proofs.LaneOrder.{all_lanes, evens_placed, odds_placed}
use Rattle.lr_lanes.proofs.narrow_lanes.all_states.Goals as goal

pub returns-clause-even : goal.returns-clause-even
unfolding all_lanes
returns-clause-even c = evens_placed c.args.evens c.args.odds c.requires.evens

pub returns-clause-odd : goal.returns-clause-odd
unfolding all_lanes
returns-clause-odd c = odds_placed c.args.evens c.args.odds c.requires.evens
