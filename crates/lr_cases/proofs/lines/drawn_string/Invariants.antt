use Rattle.std.proofs.Common.{◌≡◌, vec_len}
use Rattle.lr_cases.proofs.lines.drawn_string.Given as goal

abbrev pub invariant-loop : goal.invariant-loop
invariant-loop l = vec_len l.string ≡ l.counter
