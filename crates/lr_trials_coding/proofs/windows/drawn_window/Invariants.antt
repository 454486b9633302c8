use Rattle.std.proofs.Common.{◌≡◌, vec_len}
use Rattle.lr_trials_coding.proofs.windows.drawn_window.Given as goal

abbrev pub invariant-loop : goal.invariant-loop
invariant-loop l = vec_len l.symbols ≡ l.counter
