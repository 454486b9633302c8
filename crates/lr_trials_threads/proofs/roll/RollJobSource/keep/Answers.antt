use Rattle.std.proofs.Common.{◌<◌, arith}
use Rattle.lr_gatecore.proofs.Lists.{at_length}
use Rattle.lr_trials_threads.proofs.roll.RollJobSource.keep.Goals as goal

pub overflow_add-self : goal.overflow_add-self
overflow_add-self g c =
    let r = c.requires in
    let below : c.args.self.now.kept < c.args.self.now.given =
    omega (arith, at_length r.0.jobs r.0.kept r.2.0 r.2.1, r.1.0, r.1.1) in
    omega (arith, below)

pub invariant_of-self-clause-behind : goal.invariant_of-self-clause-behind
invariant_of-self-clause-behind g c =
    let r = c.requires in omega (arith, at_length r.0.jobs r.0.kept r.2.0 r.2.1, r.1.0, r.1.1)
