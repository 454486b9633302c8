use Rattle.std.proofs.Common.{◌≡◌, ◌≤◌, vec_len, vec_capacity}
use Rattle.lr_trials_threads.proofs.beside.pool_of.Given as goal

abbrev pub invariant-loop : goal.invariant-loop
invariant-loop l = (vec_len l.works ≡ l.counter) × (vec_capacity l.works ≡ l.seats) × (l.counter ≤ l.seats)
