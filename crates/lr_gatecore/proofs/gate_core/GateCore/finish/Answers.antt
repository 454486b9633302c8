use Rattle.std.proofs.Common.{arith, length-set}
use Rattle.lr_gatecore.specs.declared.stage.Stage.TheVariants.{Busy, Done}
use Rattle.lr_gatecore.specs.declared.event.Event.TheVariants.{Finish}
use Rattle.lr_gatecore.proofs.Lists.{at_length}
use Rattle.lr_gatecore.proofs.Steps.{finish_none, finish_moves, kept_after}
use Rattle.lr_gatecore.proofs.gate_core.GateCore.finish.Goals as goal

pub returns-in_default-clause-steps : goal.returns-in_default-clause-steps
returns-in_default-clause-steps c =
    rw (← c.self.view_is)
    (finish_none c.self.inside.size c.self.inside.taken c.args.worker
    c.self.inside.window.items c.self.inside.stopped c.in_default.ensures.none)

pub index_mut-requires : goal.index_mut-requires
index_mut-requires c = let below =
    at_length c.self.inside.window.items c.in-Some.place (Busy c.args.worker) c.in-Some.ensures.some in omega arith

pub returns-clause-steps : goal.returns-clause-steps
returns-clause-steps c =
    rw (← c.self.view_is)
    (finish_moves c.self.inside.size c.self.inside.taken c.in-Some.place c.args.worker
    c.self.inside.window.items c.self.inside.stopped c.in-Some.ensures.some)

pub invariant_of-self : goal.invariant_of-self
invariant_of-self c = let old = c.self.inside in let same = length-set old.window.items c.in-Some.place Done in
    kept_after old.size old.taken old.taken old.stopped old.window.items _ _ _ (Finish c.args.worker)
    c.self.invariant
    (finish_moves old.size old.taken c.in-Some.place c.args.worker old.window.items old.stopped
    c.in-Some.ensures.some)
    (omega arith) (omega arith) (omega arith)
