use Rattle.std.proofs.Common.{sym, ◌∙◌}
use Rattle.std.proofs.lemmas.Simd.{length-zip2}
use Rattle.lr_lanes.proofs.narrow_lanes.path_costs.Goals as goal

pub returns-clause-size : goal.returns-clause-size
returns-clause-size c =
    length-zip2 _ c.args.old c.args.costs (c.requires.sizes ∙ sym c.requires.costs_size) ∙ c.requires.sizes
