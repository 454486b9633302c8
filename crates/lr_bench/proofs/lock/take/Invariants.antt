use Rattle.std.proofs.Common.{◌≡◌, ◌+◌, length}
use Rattle.lr_bench.proofs.lock.take.Given as goal

abbrev pub invariant-loop : goal.invariant-loop
invariant-loop l = record {
  line : l.lock.line ≡ l.initial.lock.line;
  window_line : l.window.line ≡ l.initial.window.line;
  unfinished : l.lock.finished ≡ l.initial.lock.finished;
  fed : l.lock.place + length l.lock.kept ≡ l.initial.lock.place + length l.initial.lock.kept;
}
