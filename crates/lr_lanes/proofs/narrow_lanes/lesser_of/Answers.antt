use mir.Syntax.{w16}
use Rattle.lr_lanes.proofs.LaneOrder.{turned_lanes}
use Rattle.lr_lanes.proofs.Lesser.{size_is, least_is}
use Rattle.lr_lanes.proofs.TurnedWord.{first_is, bound_is}
use Rattle.lr_lanes.proofs.narrow_lanes.lesser_of.Goals as goal

pub returns-clause-size : goal.returns-clause-size
returns-clause-size c = size_is w16 c.args.first c.args.second c.requires.first c.requires.second

pub returns-clause-least : goal.returns-clause-least
returns-clause-least c = least_is w16 c.args.first c.args.second c.requires.first c.requires.second

pub returns-clause-firsts : goal.returns-clause-firsts
unfolding turned_lanes
returns-clause-firsts c = first_is c.args.first c.args.second c.requires.first c.requires.second

pub returns-clause-small : goal.returns-clause-small
unfolding turned_lanes
returns-clause-small c = bound_is c.args.first c.args.second c.requires.first c.requires.second
