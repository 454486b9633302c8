use Rattle.std.proofs.Common.{arith}
use Rattle.lr_gatecore.specs.declared.stage.Stage.TheVariants.{Busy}
use Rattle.lr_gatecore.proofs.Lists.{at_length}
use Rattle.lr_gatecore.proofs.gate_core.place_of.Goals as goal

pub returns-clause-none : goal.returns-clause-none
returns-clause-none c = λ k e. let below = at_length c.args.window.now.items k (Busy c.args.worker) e in
    c.loop-place.invariant.0 k (omega arith) e
