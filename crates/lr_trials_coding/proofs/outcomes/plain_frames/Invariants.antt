use Rattle.std.proofs.Common.{◌≡◌}
use Rattle.lr_trials_coding.proofs.outcomes.plain_frames.Given as goal

abbrev pub invariant-loop : goal.invariant-loop
invariant-loop l = l.window.line ≡ l.lock.line
