use Rattle.std.proofs.Common.{◌≡◌, ◌+◌, ◌≤◌, length}
use Rattle.lr_trials_coding.proofs.finding.windows.Given as goal

abbrev pub invariant-loop : goal.invariant-loop
invariant-loop l = record {
  finished : l.lock.finished ≡ l.finished;
  line : l.window.line ≡ l.lock.line;
  fed : l.lock.place + length l.lock.kept ≡ l.done;
  within : l.done ≤ length l.stream;
}
