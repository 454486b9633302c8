use Rattle.std.proofs.Common.{arith, ◌∙◌, ◌++◌, ◌∷◌, [], ap, length}
use Rattle.std.proofs.lemmas.List.{length-replicate, replicate_more}
use Rattle.lr_gate.specs.declared.slot_value.SlotValue.TheVariants.{Empty}
use Rattle.lr_gate.proofs.build.empties.Goals as goal

pub loop-init : goal.loop-init
loop-init g c = (c.in_ok-slots.ensures.items, c.in_ok-slots.ensures.capacity, omega arith)

pub push_reserved-requires : goal.push_reserved-requires
push_reserved-requires g c =
    let inv = c.loop.invariant in
    let long = ap length inv.0 ∙ length-replicate c.loop.counter Empty in
    omega (arith, inv.1, long)

pub loop-preserved : goal.loop-preserved
loop-preserved g c =
    let inv = c.loop.invariant in
    let put = c.push_reserved.ensures in (
      put.items ∙ (ap (λ l. l ++ Empty ∷ []) inv.0 ∙ replicate_more c.loop.counter Empty),
      omega (arith, inv.1, put.capacity),
      omega arith,
    )
