use Rattle.std.proofs.Common.{◌≡◌, ◌≤◌, ◌∙◌, Bool, true, false, cond, sym, refl, subst, arith}
use Rattle.std.proofs.lemmas.List.{take_more}
use mir.Val.{bool_byte}
use Rattle.lr_gatecore.specs.Machine.{EventsLead}
use Rattle.lr_gatecore.proofs.Steps.{leads_end, put_more}
use Rattle.lr_gatecore.proofs.gate_core.GateCore.run.Goals as goal

as_number : (b : Bool) → (bool_byte b ≡ cond b 1 0) × (cond b 1 0 ≤ 1)
as_number true = (refl, omega arith)
as_number false = (refl, omega arith)

pub loop-event-preserved : goal.loop-event-preserved
loop-event-preserved c = let kept = c.loop-event.invariant in let size = c.step.ensures.sizes in
    let b = as_number c.step.result in
    let steps = rw kept.0 at c.step.ensures.steps in
    let more = leads_end _ _ _ _ _ _ _ _ kept.3.1 steps in
    let grown = put_more _ _ _ _ _ steps in (
      size ∙ kept.0,
      omega (arith, grown, kept.1),
      omega (arith, b.0, b.1, c.from-moved.ensures, kept.2),
      (
        more.0,
        subst (λ es. EventsLead c.args.self.now.size c.args.self.now.machine es more.0
            c.step.new.self.machine)
            (sym (take_more c.args.events.now c.loop-event.event-index _ c.loop-event-test.true)) more.1,
        omega (arith, b.0, c.from-moved.ensures, kept.3.2, more.2),
      ),
    )
