use Rattle.std.proofs.Common.{◌≡◌, ◌≤◌, vec_len, vec_capacity}
use Rattle.lr_reading.proofs.symbol_parts.hire_all.Given as goal

abbrev pub invariant-loop : goal.invariant-loop
invariant-loop g l = (vec_len l.works ≡ l.counter) × (vec_capacity l.works ≡ l.count) × (l.counter ≤ l.count)
