use Rattle.std.proofs.Common.{◌++◌, ◌∷◌, [], length, rules, ap, arith, length-append, replicate}
use Rattle.std.proofs.lemmas.List.{length-replicate}
use Rattle.lr_gatecore.specs.declared.event.Event.TheVariants.{Put}
use Rattle.lr_gatecore.specs.declared.stage.Stage.TheVariants.{Ready, Done}
use Rattle.lr_gatecore.specs.Core.{Core}
use Rattle.lr_gatecore.proofs.Steps.{put_moves, kept_after}
use Rattle.lr_gatecore.proofs.gate_core.GateCore.put.Goals as goal

pub invariant_of-self : goal.invariant_of-self
invariant_of-self c = let old = c.self.inside in let longer = length-append old.window.items (Ready ∷ []) in
    let stages = c.push_back_reserved.ensures.items in let size = ap length stages in
    let past = length-append (replicate old.taken Done) old.window.items in
    let known = length-replicate old.taken Done in
    let all = ap (λ (core : Core). length core.machine.stages) c.self.view_is in
    rw stages (kept_after old.size old.taken old.taken old.stopped old.window.items
    (old.window.items ++ Ready ∷ []) _ _ Put c.self.invariant
    (put_moves old.size old.taken old.window.items old.stopped (omega arith) (search rules))
    (omega arith) (omega arith) (omega arith))

pub returns-clause-steps : goal.returns-clause-steps
returns-clause-steps c = let old = c.self.inside in rw (← c.self.view_is, c.push_back_reserved.ensures.items)
    (put_moves old.size old.taken old.window.items old.stopped (omega arith) (search rules))
