-- How many jobs aren't finished, by the list of the one seat: the measure of a loop that takes and helps on a ring
-- with no workers.
use Rattle.std.specs.Prelude.{ℕ, zero, suc, ◌+◌, cond, ◌==◌}
use Rattle.lr_gate.specs.declared.view.View.{View}
use Rattle.lr_gate.specs.Shows.{count_of}
use Rattle.lr_gate.specs.Seats.{jobs_put}

-- of the n jobs from i on
abbrev pub unfinished_from : {J : Type 0} → View J → ℕ → ℕ → ℕ
unfinished_from v i zero = 0
unfinished_from v i (suc n) = cond (count_of i v.finished == 0) 1 0 + unfinished_from v (i + 1) n

abbrev pub unfinished_count : {J : Type 0} → View J → ℕ
unfinished_count v = unfinished_from v 0 (jobs_put v)
