use Rattle.std.proofs.Common.{refl}
use Rattle.lr_layers.proofs.Pushing.{stands_for_none}
use Rattle.lr_layers.proofs.Starting.{starts_none}
use Rattle.lr_layers.proofs.layers.Layers.mending.Goals as goal

pub returns : goal.returns
returns c =
    stands_for_none c.args.most _ c.new.ensures.most refl c.new-3.ensures c.new.ensures.stands
    (starts_none _ c.new-2.ensures.none c.new-2.ensures.once) refl refl
