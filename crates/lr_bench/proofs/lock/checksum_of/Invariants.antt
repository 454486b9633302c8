use Rattle.std.proofs.Common.{◌≡◌, ◌+◌, ◌*◌, ◌≤◌, false, length}
use Rattle.lr_bench.proofs.lock.checksum_of.Given as goal

abbrev pub invariant-loop : goal.invariant-loop
invariant-loop l = record {
  line : l.window.line ≡ l.lock.line;
  unfinished : l.lock.finished ≡ false;
  fed : l.lock.place + length l.lock.kept ≤ 32768 * l.counter;
}
