use Rattle.std.proofs.Common.{◌≡◌, ◌≤◌, vec_len, vec_capacity}
use Rattle.lr_reading.specs.WindowSources.{AreDecoded}
use Rattle.lr_reading.proofs.intake.new_windows.Given as goal

abbrev pub invariant-loop : goal.invariant-loop
invariant-loop l = record {
  lines : AreDecoded l.decoding l.windows.items;
  many : vec_len l.windows ≡ l.counter;
  room : vec_capacity l.windows ≡ l.count;
  few : l.counter ≤ l.count;
}
