use Rattle.std.proofs.Common.{◌≡◌, ◌≤◌, replicate, vec_capacity}
use Rattle.lr_gate.specs.declared.slot_value.SlotValue.TheVariants.{Empty}
use Rattle.lr_gate.proofs.build.empties.Given as goal

abbrev pub invariant-loop : goal.invariant-loop
invariant-loop g l = (l.slots.items ≡ replicate l.counter Empty) × (l.count ≤ vec_capacity l.slots)
    × (l.counter ≤ l.count)
