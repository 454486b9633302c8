use Rattle.std.proofs.Common.{◌+◌, arith, length-drop}
use Rattle.lr_gatecore.specs.declared.event.Event.TheVariants.{Take}
use Rattle.lr_gatecore.specs.declared.stage.Stage.TheVariants.{Done}
use Rattle.lr_gatecore.proofs.Lists.{at_length}
use Rattle.lr_gatecore.proofs.Steps.{take_none, take_moves, kept_after}
use Rattle.lr_gatecore.proofs.gate_core.GateCore.take.Goals as goal

pub returns-then-not-is_at-clause-steps : goal.returns-then-not-is_at-clause-steps
returns-then-not-is_at-clause-steps c =
    rw (← c.self.view_is)
    (take_none c.self.inside.size c.self.inside.taken c.self.inside.window.items
    c.self.inside.stopped c.if-not-is_at.ensures.no)

pub returns-clause-steps : goal.returns-clause-steps
returns-clause-steps c =
    rw (← c.self.view_is)
    (take_moves c.self.inside.size c.self.inside.taken c.self.inside.window.items _
    c.self.inside.stopped c.if-not-is_at.ensures.yes c.pop_front-done.ensures.rest)

pub invariant_of-self : goal.invariant_of-self
invariant_of-self c = let old = c.self.inside in let size = c.pop_front-done.ensures.len in
    let rest = c.pop_front-done.ensures.rest in let done = c.if-not-is_at.ensures.yes in
    let some_job = at_length old.window.items 0 Done done in
    kept_after old.size old.taken (old.taken + 1) old.stopped old.window.items _ _ _ Take c.self.invariant
    (take_moves old.size old.taken old.window.items _ old.stopped done rest)
    (rw rest (omega (arith, length-drop 1 old.window.items))) (rw c.pop_front-done.ensures.capacity (omega arith))
    (rw rest (omega (arith, length-drop 1 old.window.items)))
